use Rattle.std.proofs.Common.{rules, ◌≡◌, ◌++◌, [], ◌∷◌, ap, sym, ◌∙◌, arith}
use Rattle.std.proofs.lemmas.Bool.{ne_eqb}
use Rattle.scheme_text.specs.inside.Scan.{in_front, read_from, inside}
use Rattle.scheme_text.proofs.Sound.{front_empty}
use Rattle.scheme_text.proofs.Reading.{plain_step}
use Rattle.scheme_text.proofs.strings.read_string.Goals as goal

pub loop-byte-init : goal.loop-byte-init
loop-byte-init c = (ap (λ u. in_front u (read_from inside c.args.bytes.now)) c.new-text.ensures.items ∙ front_empty c.args.bytes.now, omega arith)

pub loop-byte-preserved : goal.loop-byte-preserved
loop-byte-preserved c =
    let items : c.push.new.self.items ≡ c.loop-byte.text.items ++ c.in-Some.byte.now ∷ [] = search rules in
    let first : c.loop-byte.rest.now ≡ c.in-Some.byte.now ∷ c.in-Some.others.now = search rules in (
      ap (λ u. in_front u (read_from inside c.in-Some.others.now)) items
          ∙ plain_step c.loop-byte.text.items c.in-Some.byte.now c.in-Some.others.now (ne_eqb c.in-Some.byte.now 34 c.if-byte-eq34.false) (ne_eqb c.in-Some.byte.now 92 c.if-byte-eq92.false)
          ∙ ap (λ s. in_front c.loop-byte.text.items (read_from inside s)) (sym first) ∙ c.loop-byte.invariant.0,
      search rules,
    )
