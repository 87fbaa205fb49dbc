use Rattle.std.proofs.Common.{ap, sym, subst, arith, List}
use Rattle.std.specs.Prelude.{is_some}
use Rattle.worksheet.specs.declared.field.Session.{Session}
use Rattle.worksheet.specs.inside.Entries.{AreNamed, shown}
use Rattle.worksheet.proofs.EntryLaws.{length-ready, shown-fill, Fits-fill}
use Rattle.worksheet.proofs.NamedSessions.{AreNamed-push, name_in}
use Rattle.worksheet.proofs.session_map.put_session.Goals as goal

pub index_mut-requires : goal.index_mut-requires
index_mut-requires c =
    let longer = length-ready name_in c.args.sessions.now.entries c.requires.sessions.fits (ap is_some c.requires.ready) in
    omega (arith, longer, c.count_sessions-last.ensures)

pub returns-clause-made : goal.returns-clause-made
returns-clause-made c = rw c.count_sessions-last.ensures (shown-fill name_in c.args.sessions.now.entries c.args.session c.requires.sessions.fits (ap is_some c.requires.ready))

pub returns-clause-sessions : goal.returns-clause-sessions
returns-clause-sessions c =
    let es = c.args.sessions.now.entries in
    rw c.count_sessions-last.ensures (record {
      fits = Fits-fill name_in es c.args.session c.requires.sessions.fits c.requires.ready;
      named = subst (λ (ss : List Session). AreNamed ss) (sym (shown-fill name_in es c.args.session c.requires.sessions.fits (ap is_some c.requires.ready))) (AreNamed-push (shown es) c.args.session c.requires.sessions.named c.requires.named);
    })
