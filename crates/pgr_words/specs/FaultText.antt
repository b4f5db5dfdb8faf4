-- What is said of words that break a rule.
use Rattle.std.specs.Prelude.{ℕ, List, ◌++◌, codes, decimal}
use Rattle.pgr_words.specs.declared.fault.WordFault.{WordFault}
use Rattle.pgr_words.specs.declared.fault.WordFault.TheVariants as fault
use Rattle.pgr_words.specs.Options.{name_of}

-- the text of a fault; the program's message is this text with the program's name before it
abbrev pub fault_text : WordFault → List ℕ
fault_text fault.NoFunction = codes "no function"
fault_text fault.UnknownFunction = codes "unknown function"
fault_text (fault.BadWord place) = codes "bad word " ++ decimal place
fault_text (fault.UnknownOption place) = codes "unknown option in word " ++ decimal place
fault_text (fault.RepeatedOption option) = codes "option " ++ name_of option ++ codes " repeated"
fault_text (fault.BadValue option) = codes "bad value for " ++ name_of option
fault_text (fault.MissingOption option) = codes "option " ++ name_of option ++ codes " missing"
