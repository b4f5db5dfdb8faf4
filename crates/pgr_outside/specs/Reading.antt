-- What the reader of a whole file answers where a read of the store gives nothing.
use Rattle.pgr_outside.specs.declared.fault.StoreFault.{StoreFault}
use Rattle.pgr_outside.specs.declared.fault.StoreFault.TheVariants.{Failed, Memory}
use Rattle.pgr_outside.specs.declared.reading.ReadRefused.{ReadRefused}
use Rattle.pgr_outside.specs.declared.reading.ReadRefused.TheVariants as refused

-- a failure outside stays a failure, and want of memory stays want of memory
abbrev pub refusal_of : StoreFault → ReadRefused
refusal_of Failed = refused.Failed
refusal_of Memory = refused.Memory
