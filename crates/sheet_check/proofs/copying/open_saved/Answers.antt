use Rattle.std.proofs.Common.{◌∙◌, subst, sym}
use Rattle.disk_model.specs.Disk.{bytes_on, greatest_room}
use Rattle.session_engine.specs.World.{world_at_opening}
use Rattle.session_engine.specs.Host.{IsHost}
use Rattle.sheet_check.specs.Opened.{OpenedOn}
use Rattle.sheet_check.proofs.Opening.{opened_on}
use Rattle.sheet_check.proofs.copying.open_saved.Goals as goal

pub returns-in-Ok : goal.returns-in-Ok
returns-in-Ok g c =
    let ops = c.requires.made.0 in
    let makes = c.requires.made.1 in
    let image = c.requires.saved (bytes_on (g.D.Disk.view c.args.disk)) (g.met.D.Disk.content_stays c.args.disk c.requires.model) in
    let same = c.in-Ok.ensures.exact c.requires.model c.args.sheet.now.contents image in
    let at_room = c.in-Ok.ensures.stands ops makes.allowed (same ∙ makes.is) in
    let stands = subst (λ room. IsHost c.in-Ok.host (world_at_opening ops room c.in-Ok.host.store.end)) c.requires.room at_room in (
      world_at_opening ops greatest_room c.in-Ok.host.store.end,
      stands,
      record {
        made = g.D.Disk.view c.args.disk;
        keeps = c.requires.model;
        room = c.requires.room;
        is = image;
        opened = subst (λ room. OpenedOn (g.D.Disk.view c.args.disk) (world_at_opening ops room c.in-Ok.host.store.end) c.in-Ok.host.store.disk) c.requires.room
            (opened_on (g.D.Disk.view c.args.disk) c.in-Ok.host ops at_room c.in-Ok.ensures.found c.in-Ok.ensures.ends c.in-Ok.ensures.looks);
        has = sym makes.is;
        holds = stands.stands.images;
      },
    )
