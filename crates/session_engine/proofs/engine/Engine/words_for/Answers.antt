use Rattle.std.proofs.Common.{◌≡◌, ℕ, List, ap, sym, ◌∙◌, Option, Some, None}
use Rattle.worksheet.specs.declared.field.Session.{Session}
use Rattle.worksheet.specs.Contents.{SheetView, Contents}
use Rattle.worksheet.specs.Checks.{session_named}
use Rattle.session_engine.specs.World.{Going, life_of, sheet_in}
use Rattle.session_engine.specs.inside.Parts.{start_words}
use Rattle.session_engine.specs.inside.Words.{starting_words}
use Rattle.session_engine.specs.Host.{name_of}
use Rattle.session_engine.proofs.Tables.{some_there, none, found, not_found}
use Rattle.session_engine.proofs.engine.Engine.words_for.Goals as goal

pub returns-in-Some : goal.returns-in-Some
returns-in-Some g c = λ w h.
    let rs = c.args.self.now.lives.items in
    let r = some_there name_of c.args.name 0 rs c.in-Some.field-0 (sym c.place_of.ensures.found ∙ c.in-Some.is) in
    let f = found c.args.name rs w.lives r.0 h.lives_are r.1 in
    sym (ap (λ (o : Option Going). start_words w c.args.name o) f.is)

pub returns-in_ok-copy_words-in-Some-session : goal.returns-in_ok-copy_words-in-Some-session
returns-in_ok-copy_words-in-Some-session g c = λ w h.
    let rs = c.args.self.now.lives.items in
    let e : life_of w c.args.name ≡ None = not_found c.args.name rs w.lives h.lives_are (none name_of c.args.name 0 rs (sym c.place_of.ensures.found ∙ c.in-None.is)) in
    let named : Some c.in-Some-session.session.now ≡ session_named (sheet_in w).sessions c.args.name =
    c.in-Some-session.ensures ∙ ap (λ (l : SheetView). session_named l.contents.sessions c.as_slice.result.now) c.sheet.ensures.sheet
    ∙ ap (λ (n : List ℕ). session_named c.args.self.now.store.sheet.contents.sessions n) c.as_slice.ensures.bytes ∙ ap (λ (x : Contents). session_named x.sessions c.args.name) h.contents in
    ap (λ (ws : List (List ℕ)). Some ws) c.in_ok-copy_words-in-Some-session.ensures
    ∙ ap (λ (o : Option Session). Some (starting_words o)) named
    ∙ sym (ap (λ (o : Option Going). start_words w c.args.name o) e)

pub returns-in-None-session : goal.returns-in-None-session
returns-in-None-session g c = λ w h.
    let rs = c.args.self.now.lives.items in
    let e : life_of w c.args.name ≡ None = not_found c.args.name rs w.lives h.lives_are (none name_of c.args.name 0 rs (sym c.place_of.ensures.found ∙ c.in-None.is)) in
    let named : None ≡ session_named (sheet_in w).sessions c.args.name =
    c.in-None-session.ensures ∙ ap (λ (l : SheetView). session_named l.contents.sessions c.as_slice.result.now) c.sheet.ensures.sheet
    ∙ ap (λ (n : List ℕ). session_named c.args.self.now.store.sheet.contents.sessions n) c.as_slice.ensures.bytes ∙ ap (λ (x : Contents). session_named x.sessions c.args.name) h.contents in
    ap (λ (ws : List (List ℕ)). Some ws) c.new.ensures ∙ ap (λ (o : Option Session). Some (starting_words o)) named ∙ sym (ap (λ (o : Option Going). start_words w c.args.name o) e)
