-- The command line as clap is told it: five subcommands, each with an operand and two options.
use Rattle.std.specs.Prelude.{List, [], ◌∷◌, Some, true, codes}
use Rattle.clap.specs.Walk.{Rule}
use Rattle.clap.specs.Simple.{App, Shape, new_app, new_rule, new_shape, on_top, with_subcommand}
use Rattle.rx_words.specs.declared.line.CommandName.{CommandName}
use Rattle.rx_words.specs.declared.line.CommandName.TheVariants.{Check, Decode, Encode, Run, Load}
use Rattle.rx_words.specs.Form.{Text, name_of}

abbrev pub option_rule : Text → Rule
option_rule name = record (new_rule name) { long = Some name }

abbrev pub given_rules : List Rule
given_rules = new_rule (codes "operand") ∷ option_rule (codes "splits") ∷ option_rule (codes "deep") ∷ []

abbrev pub sub_shape : CommandName → Shape
sub_shape command = record (new_shape (name_of command)) { rules = given_rules }

abbrev pub bare : App
bare = on_top (λ s. record s { no_binary_name = true; disable_help_flag = true; disable_help_subcommand = true; disable_version_flag = true; subcommand_required = true }) (new_app (codes "rflx"))

abbrev pub app : App
app = with_subcommand (with_subcommand (with_subcommand (with_subcommand (with_subcommand bare (sub_shape Check)) (sub_shape Decode)) (sub_shape Encode)) (sub_shape Run)) (sub_shape Load)
