-- Why tables that are each accepted aren't accepted together.
use Rattle.std.specs.Prelude.{Option, option_map}
use Rattle.pgr_words.specs.declared.command.Command.{Command}
use Rattle.pgr_graph.specs.Restricted.{restricted_fault}
use Rattle.pgr_answer.specs.declared.tables.Tables.{Tables}
use Rattle.pgr_answer.specs.declared.role.Role.TheVariants.{Restrictions}
use Rattle.pgr_answer.specs.declared.refused.Refused.{Refused}
use Rattle.pgr_answer.specs.declared.refused.Refused.TheVariants.{Table}

-- why the tables of a command are refused together, if they are: a restriction, with those before it, takes the sum of the costs of all links too far
abbrev pub refusal_together : Command → Tables → Option Refused
refusal_together command tables = option_map (Table Restrictions) (restricted_fault tables.edges command.directed tables.restrictions)
