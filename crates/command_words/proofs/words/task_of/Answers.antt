use Rattle.std.proofs.Common.{ap, ap₂, codes, None, Option, Some, sym, ◌≡◌, ◌∙◌}
use Rattle.std.specs.Box.{box_value}
use Rattle.clap.specs.Words.{Text, first_of, found_of, rows_of}
use Rattle.clap.specs.declared.parser.matches.ArgMatches.TheViews.{out-ArgMatches, out-SubCommand}
use Rattle.clap.proofs.WalkLemmas.{first_value-rows}
use Rattle.command_words.specs.Asked.{FlagsView, blocks_by, by_paths, by_subcommand, by_words, flags_in}
use Rattle.command_words.proofs.Subcommands.{joined}
use Rattle.command_words.proofs.words.task_of.Goals as goal

pub returns-in-Some-get_str-2 : goal.returns-in-Some-get_str-2
returns-in-Some-get_str-2 c =
    let found = found_of c.in-Some.inner.now in
    let rows_are = joined (out-ArgMatches c.args.matches.now).subcommand (λ b. (out-SubCommand (box_value b)).name.now)
    (λ b. rows_of (found_of (out-SubCommand (box_value b)).matches)) c.in-Some.name.now (rows_of found) c.in-Some.ensures.name c.in-Some.ensures.rows in
    let path_is : first_of (codes "PATH") (rows_of found) ≡ Some c.in-Some-get_str.path.now = sym (first_value-rows found (codes "PATH")) ∙ sym c.in-Some-get_str.ensures in
    let new_is : first_of (codes "NEW") (rows_of found) ≡ Some c.in-Some-get_str-2.new.now = sym (first_value-rows found (codes "NEW")) ∙ sym c.in-Some-get_str-2.ensures in
    c.task_with_paths.ensures (first_of (codes "FORMAT") (rows_of found)) (flags_in (rows_of found))
    ∙ ap (λ (changes : Option Text). by_words c.in-Some.name.now c.in-Some-get_str.path.now (Some c.in-Some-get_str-2.new.now) (first_of (codes "FORMAT") (rows_of found)) (record (flags_in (rows_of found)) { changes = changes })) (c.get_str-in-Some-get_str-2.ensures ∙ first_value-rows found (codes "N"))
    ∙ sym (ap by_subcommand rows_are ∙ ap (λ (path : Option Text). by_paths c.in-Some.name.now path (first_of (codes "NEW") (rows_of found)) (first_of (codes "FORMAT") (rows_of found)) (flags_in (rows_of found))) path_is
    ∙ ap (λ (new : Option Text). by_paths c.in-Some.name.now (Some c.in-Some-get_str.path.now) new (first_of (codes "FORMAT") (rows_of found)) (flags_in (rows_of found))) new_is)

pub returns-in-Some-get_str-3 : goal.returns-in-Some-get_str-3
returns-in-Some-get_str-3 c =
    let found = found_of c.in-Some.inner.now in
    let rows_are = joined (out-ArgMatches c.args.matches.now).subcommand (λ b. (out-SubCommand (box_value b)).name.now)
    (λ b. rows_of (found_of (out-SubCommand (box_value b)).matches)) c.in-Some.name.now (rows_of found) c.in-Some.ensures.name c.in-Some.ensures.rows in
    let path_is : first_of (codes "PATH") (rows_of found) ≡ Some c.in-Some-get_str.path.now = sym (first_value-rows found (codes "PATH")) ∙ sym c.in-Some-get_str.ensures in
    let new_is : first_of (codes "NEW") (rows_of found) ≡ None = sym (first_value-rows found (codes "NEW")) ∙ sym c.in_default-get_str-2.ensures in
    let format_is : first_of (codes "FORMAT") (rows_of found) ≡ Some c.in-Some-get_str-3.format.now = sym (first_value-rows found (codes "FORMAT")) ∙ sym c.in-Some-get_str-3.ensures in
    c.task_with_format.ensures (flags_in (rows_of found))
    ∙ ap (λ (at : Option Text). by_words c.in-Some.name.now c.in-Some-get_str.path.now None (Some c.in-Some-get_str-3.format.now) (record (flags_in (rows_of found)) { at = at })) (c.get_str-in-Some-get_str-3.ensures ∙ first_value-rows found (codes "at"))
    ∙ sym (ap by_subcommand rows_are ∙ ap (λ (path : Option Text). by_paths c.in-Some.name.now path (first_of (codes "NEW") (rows_of found)) (first_of (codes "FORMAT") (rows_of found)) (flags_in (rows_of found))) path_is
    ∙ ap₂ (λ (new format : Option Text). by_paths c.in-Some.name.now (Some c.in-Some-get_str.path.now) new format (flags_in (rows_of found))) new_is format_is)

pub returns-in_ok-flags_of-in-None : goal.returns-in_ok-flags_of-in-None
returns-in_ok-flags_of-in-None c =
    let found = found_of c.in-Some.inner.now in
    let rows_are = joined (out-ArgMatches c.args.matches.now).subcommand (λ b. (out-SubCommand (box_value b)).name.now)
    (λ b. rows_of (found_of (out-SubCommand (box_value b)).matches)) c.in-Some.name.now (rows_of found) c.in-Some.ensures.name c.in-Some.ensures.rows in
    let path_is : first_of (codes "PATH") (rows_of found) ≡ Some c.in-Some-get_str.path.now = sym (first_value-rows found (codes "PATH")) ∙ sym c.in-Some-get_str.ensures in
    let new_is : first_of (codes "NEW") (rows_of found) ≡ None = sym (first_value-rows found (codes "NEW")) ∙ sym c.in_default-get_str-2.ensures in
    let format_is : first_of (codes "FORMAT") (rows_of found) ≡ None = sym (first_value-rows found (codes "FORMAT")) ∙ sym c.in-None.ensures in
    c.task_with_path.ensures ∙ sym (ap by_subcommand rows_are ∙ ap (λ (path : Option Text). by_paths c.in-Some.name.now path (first_of (codes "NEW") (rows_of found)) (first_of (codes "FORMAT") (rows_of found)) (flags_in (rows_of found))) path_is
    ∙ ap₂ (λ (new format : Option Text). by_paths c.in-Some.name.now (Some c.in-Some-get_str.path.now) new format (flags_in (rows_of found))) new_is format_is
    ∙ ap (λ (flags : FlagsView). by_paths c.in-Some.name.now (Some c.in-Some-get_str.path.now) None None flags) (sym c.in_ok-flags_of-in-None.ensures))

pub returns-in_default-get_str : goal.returns-in_default-get_str
returns-in_default-get_str c =
    let found = found_of c.in-Some.inner.now in
    let rows_are = joined (out-ArgMatches c.args.matches.now).subcommand (λ b. (out-SubCommand (box_value b)).name.now)
    (λ b. rows_of (found_of (out-SubCommand (box_value b)).matches)) c.in-Some.name.now (rows_of found) c.in-Some.ensures.name c.in-Some.ensures.rows in
    let path_is : first_of (codes "PATH") (rows_of found) ≡ None = sym (first_value-rows found (codes "PATH")) ∙ sym c.in_default-get_str.ensures in
    c.task_of_blocks.ensures ∙ ap blocks_by c.asks_for_json.ensures
    ∙ sym (ap by_subcommand rows_are ∙ ap (λ (path : Option Text). by_paths c.in-Some.name.now path (first_of (codes "NEW") (rows_of found)) (first_of (codes "FORMAT") (rows_of found)) (flags_in (rows_of found))) path_is)
