use Rattle.std.proofs.Common.{◌++◌, ◌∷◌, []}
use Rattle.std.proofs.KnownBytes.{Appends-trans}
use Rattle.sheet_export.specs.Markdown.{input_code}
use Rattle.sheet_export.specs.Fences.{fence_of}
use Rattle.sheet_export.proofs.markdown.write_code.Goals as goal

pub returns : goal.returns
returns g c =
    let field = c.args.field.now in
    let fence = fence_of c.args.length in
    let lines = input_code field.input ++ 10 ∷ [] in
    Appends-trans _ _ _ (fence ++ field.session ++ 10 ∷ [] ++ lines ++ fence) (10 ∷ []) (Appends-trans _ _ _ (fence ++ field.session ++ 10 ∷ [] ++ lines) fence (Appends-trans _ _ _ (fence ++ field.session ++ 10 ∷ []) lines (Appends-trans _ _ _ (fence ++ field.session) (10 ∷ []) (Appends-trans _ _ _ fence field.session c.in_ok-write_fence.ensures c.in_ok-write_session.ensures) c.in_ok-write_bytes.ensures) (Appends-trans _ _ _ (input_code field.input) (10 ∷ []) c.in_ok-write_given.ensures c.in_ok-write_bytes-2.ensures)) c.in_ok-write_fence-2.ensures) c.in_ok-write_bytes-3.ensures
