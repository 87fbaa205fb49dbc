-- The arguments that the words of a subcommand are to `clap`.
use Rattle.std.specs.Prelude.{List, [], ◌∷◌, Some, true}
use Rattle.clap.specs.Words.{App, Rule, Text, new_rule, with_rule}
use Rattle.clap.specs.declared.builder.action.ArgAction.TheVariants.{Append, SetTrue}
use Rattle.command_words.specs.declared.arguments.Given.{Given}
use Rattle.command_words.specs.declared.arguments.Given.TheVariants as given
use Rattle.command_words.specs.declared.arguments.Word.{Word}

-- the rule of a word, by how it is given and by its name
abbrev pub rule_given : Given → Text → Rule
rule_given given.Flag name = record (new_rule name) { long = Some name; action = Some SetTrue }
rule_given (given.Value value) name = record (new_rule name) { long = Some name; value_names = 1 }
rule_given given.Place name = record (new_rule name) { required = true }
rule_given given.Places name = record (new_rule name) { required = true; action = Some Append }
rule_given given.Rest name = record (new_rule name) { action = Some Append }

-- a command with these words more, in their order
abbrev pub with_words : App → List Word → App
with_words app [] = app
with_words app (word ∷ words) = with_words (with_rule app (rule_given word.given word.name.now)) words
