use Rattle.std.proofs.Common.{◌≡◌, ◌∙◌, ap, sym, true, arith}
use Rattle.std.specs.Prelude.{is_some}
use Rattle.worksheet.specs.inside.Entries.{reserved}
use Rattle.worksheet.proofs.EntryLaws.{length-full, length-ready}
use Rattle.worksheet.proofs.NamedSessions.{name_in}
use Rattle.worksheet.proofs.session_map.count_sessions.Goals as goal

pub returns-in-Some : goal.returns-in-Some
returns-in-Some c =
    let there : is_some (reserved c.args.sessions.now.entries) ≡ true = ap is_some (sym c.in-Some.ensures) in
    let longer = length-ready name_in c.args.sessions.now.entries c.requires.fits there in
    omega (arith, longer, c.len.ensures.len)

pub returns-in-None : goal.returns-in-None
returns-in-None c = c.len-in-None.ensures.len ∙ length-full name_in c.args.sessions.now.entries (sym c.in-None.ensures)
