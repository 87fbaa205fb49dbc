use Rattle.std.proofs.Common.{rules, slice_index, suc, ◌-◌, false, refl, ◌≡◌, ◌+◌, arith, subst}
use Rattle.block_tree.specs.Shape.{longest_tag}
use Rattle.meta_format.specs.Limits.{limits}
use Rattle.meta_format.specs.inside.Flat.{InBody, InEscape}
use Rattle.meta_format.specs.Spelling.{is_special}
use Rattle.meta_format.specs.inside.Named.{Names}
use Rattle.meta_format.proofs.Flat.{begin_two, tag_whole, tag_bad, body_two, body_five, body_27, escape_any, deep, whole, body_letter, body_run}
use Rattle.meta_format.proofs.outer.block_up_to.Goals as goal

pub returns-in-Bad : goal.returns-in-Bad
returns-in-Bad c =
    let some = c.requires.some in
    let high = c.requires.high in
    let short = c.requires.short in
    let early = c.requires.early in
    let s = c.args.stream.now in
    let named = subst (Names longest_tag s (c.args.start + 1) c.args.limit) c.in-Bad.is c.name_end.ensures in
    let on = named.1 in
    tag_bad limits s c.args.start (c.args.start + 1) 0 c.in-Bad.offset named.0 (omega (arith, high, on)) named.2 (omega (arith, short, on)) (omega (arith, early, high, on))
    (begin_two limits s c.args.start (omega (arith, some, high)) c.requires.two (omega (arith, some, high, early)))

pub returns-in-Cut : goal.returns-in-Cut
returns-in-Cut c =
    let some = c.requires.some in
    let high = c.requires.high in
    let early = c.requires.early in
    let s = c.args.stream.now in
    let start = c.args.start in
    let named = subst (Names longest_tag s (start + 1) c.args.limit) c.in-Cut.is c.name_end.ensures in
    (0, begin_two limits s start (omega (arith, some, high)) c.requires.two (omega (arith, some, high, early)), named)

pub returns-then-depth : goal.returns-then-depth
returns-then-depth c =
    let high = c.requires.high in
    let on = c.loop-at-test.true in
    deep limits c.args.stream.now c.args.start c.loop-at.at c.loop-at.depth (omega (arith, high, on)) (search rules) (search rules) c.loop-at.invariant.3

pub loop-at-init : goal.loop-at-init
loop-at-init c =
    let some = c.requires.some in
    let high = c.requires.high in
    let short = c.requires.short in
    let early = c.requires.early in
    let s = c.args.stream.now in
    let start = c.args.start in
    let named = subst (Names longest_tag s (start + 1) c.args.limit) c.in-Whole.is c.name_end.ensures in
    let end = named.1 in
    let size = named.0.6 in (
      omega (arith, size),
      end,
      omega arith,
      tag_whole limits s start (start + 1) 0 c.in-Whole.end named.0 (omega (arith, short, end)) (omega (arith, early, high, end))
          (begin_two limits s start (omega (arith, some, high)) c.requires.two (omega (arith, some, high, early))),
    )

pub loop-at-preserved-in-Whole-name_end : goal.loop-at-preserved-in-Whole-name_end
loop-at-preserved-in-Whole-name_end c =
    let high = c.requires.high in
    let short = c.requires.short in
    let early = c.requires.early in
    let s = c.args.stream.now in
    let start = c.args.start in
    let at = c.loop-at.at in
    let d = c.loop-at.depth in
    let on = c.loop-at-test.true in
    let so = c.loop-at.invariant.3 in
    let low = c.loop-at.invariant.0 in
    let shallow = c.if-depth.false in
    let byte : slice_index s at ≡ 2 = search rules in
    let two = body_two limits s start at d (omega (arith, on, high)) byte (omega (arith, short, on)) (omega (arith, early, on, high)) (omega (arith, shallow)) so in
    let named = subst (Names longest_tag s (at + 1) c.args.limit) c.in-Whole-name_end.is c.name_end-then-c-eq2.ensures in
    let end = named.1 in
    let size = named.0.6 in
    let deeper : suc d ≡ d + 1 = omega arith in
    (omega (arith, size, low), end, omega (arith, shallow), subst (λ n. InBody limits s start c.in-Whole-name_end.end n) deeper (tag_whole limits s start (at + 1) (suc d) c.in-Whole-name_end.end named.0 (omega (arith, short, end)) (omega (arith, early, high, end)) two))

pub returns-in-Bad-name_end : goal.returns-in-Bad-name_end
returns-in-Bad-name_end c =
    let high = c.requires.high in
    let short = c.requires.short in
    let early = c.requires.early in
    let s = c.args.stream.now in
    let start = c.args.start in
    let at = c.loop-at.at in
    let d = c.loop-at.depth in
    let on = c.loop-at-test.true in
    let so = c.loop-at.invariant.3 in
    let shallow = c.if-depth.false in
    let byte : slice_index s at ≡ 2 = search rules in
    let two = body_two limits s start at d (omega (arith, on, high)) byte (omega (arith, short, on)) (omega (arith, early, on, high)) (omega (arith, shallow)) so in
    let named = subst (Names longest_tag s (at + 1) c.args.limit) c.in-Bad-name_end.is c.name_end-then-c-eq2.ensures in
    let end = named.1 in
    tag_bad limits s start (at + 1) (suc d) c.in-Bad-name_end.offset named.0 (omega (arith, high, end)) named.2 (omega (arith, short, end)) (omega (arith, early, high, end)) two

pub returns-in-Cut-name_end : goal.returns-in-Cut-name_end
returns-in-Cut-name_end c =
    let high = c.requires.high in
    let short = c.requires.short in
    let early = c.requires.early in
    let s = c.args.stream.now in
    let start = c.args.start in
    let at = c.loop-at.at in
    let d = c.loop-at.depth in
    let on = c.loop-at-test.true in
    let so = c.loop-at.invariant.3 in
    let shallow = c.if-depth.false in
    let byte : slice_index s at ≡ 2 = search rules in
    let two = body_two limits s start at d (omega (arith, on, high)) byte (omega (arith, short, on)) (omega (arith, early, on, high)) (omega (arith, shallow)) so in
    let named = subst (Names longest_tag s (at + 1) c.args.limit) c.in-Cut-name_end.is c.name_end-then-c-eq2.ensures in
    (suc d, two, named)

pub returns-then-depth-eq0 : goal.returns-then-depth-eq0
returns-then-depth-eq0 c =
    let high = c.requires.high in
    let early = c.requires.early in
    let s = c.args.stream.now in
    let start = c.args.start in
    let at = c.loop-at.at in
    let d = c.loop-at.depth in
    let on = c.loop-at-test.true in
    let so = c.loop-at.invariant.3 in
    let low = c.loop-at.invariant.0 in
    let byte : slice_index s at ≡ 5 = search rules in
    let none : d ≡ 0 = search rules in
    (omega (arith, low), omega (arith, on), _, whole limits s start at (omega (arith, on, high)) byte (omega (arith, early, on, high)) (subst (λ n. InBody limits s start at n) none so))

pub loop-at-preserved-then-c-eq5 : goal.loop-at-preserved-then-c-eq5
loop-at-preserved-then-c-eq5 c =
    let high = c.requires.high in
    let short = c.requires.short in
    let early = c.requires.early in
    let s = c.args.stream.now in
    let start = c.args.start in
    let at = c.loop-at.at in
    let d = c.loop-at.depth in
    let on = c.loop-at-test.true in
    let so = c.loop-at.invariant.3 in
    let low = c.loop-at.invariant.0 in
    let few = c.loop-at.invariant.2 in
    let byte : slice_index s at ≡ 5 = search rules in
    let inner : d ≡ suc (d - 1) = search rules in
    (omega (arith, low), omega (arith, on), omega (arith, few), body_five limits s start at (d - 1) (omega (arith, on, high)) byte (omega (arith, short, on)) (omega (arith, early, on, high)) (subst (λ n. InBody limits s start at n) inner so))

pub returns-then-limit-at-lt2 : goal.returns-then-limit-at-lt2
returns-then-limit-at-lt2 c =
    let high = c.requires.high in
    let short = c.requires.short in
    let early = c.requires.early in
    let s = c.args.stream.now in
    let start = c.args.start in
    let at = c.loop-at.at in
    let d = c.loop-at.depth in
    let on = c.loop-at-test.true in
    let so = c.loop-at.invariant.3 in
    let byte : slice_index s at ≡ 27 = search rules in
    let escape = body_27 limits s start at d (omega (arith, on, high)) byte (omega (arith, short, on)) (omega (arith, early, on, high)) so in
    let last = c.if-limit-at-lt2.true in
    let here : at + 1 ≡ c.args.limit = omega (arith, last, on) in
    (d, subst (λ n. InEscape limits s start n d) here escape)

pub loop-at-preserved-then-c-eq27 : goal.loop-at-preserved-then-c-eq27
loop-at-preserved-then-c-eq27 c =
    let high = c.requires.high in
    let short = c.requires.short in
    let early = c.requires.early in
    let s = c.args.stream.now in
    let start = c.args.start in
    let at = c.loop-at.at in
    let d = c.loop-at.depth in
    let on = c.loop-at-test.true in
    let so = c.loop-at.invariant.3 in
    let low = c.loop-at.invariant.0 in
    let few = c.loop-at.invariant.2 in
    let byte : slice_index s at ≡ 27 = search rules in
    let escape = body_27 limits s start at d (omega (arith, on, high)) byte (omega (arith, short, on)) (omega (arith, early, on, high)) so in
    let more = c.if-limit-at-lt2.false in
    let here : at + 1 + 1 ≡ at + 2 = omega arith in
    (omega (arith, low), omega (arith, more, on), few, subst (λ n. InBody limits s start n d) here (escape_any limits s start (at + 1) d (omega (arith, more, on, high)) (omega (arith, short, more, on)) (omega (arith, early, more, on, high)) escape))

pub loop-at-preserved : goal.loop-at-preserved
loop-at-preserved c =
    let high = c.requires.high in
    let short = c.requires.short in
    let early = c.requires.early in
    let s = c.args.stream.now in
    let start = c.args.start in
    let at = c.loop-at.at in
    let d = c.loop-at.depth in
    let on = c.loop-at-test.true in
    let so = c.loop-at.invariant.3 in
    let low = c.loop-at.invariant.0 in
    let few = c.loop-at.invariant.2 in
    let plain : is_special (slice_index s at) ≡ false = search rules in
    let from = c.text_end-at.ensures.low in
    let to = c.text_end-at.ensures.high in
    let one = body_letter limits s start at d (slice_index s at) (omega (arith, on, high)) refl plain (omega (arith, short, on)) (omega (arith, early, on, high)) so in
    (omega (arith, low, from), to, few, body_run limits s start (at + 1) c.text_end-at.result d from (omega (arith, to, high)) c.text_end-at.ensures.plain (omega (arith, short, to)) (omega (arith, early, to, high)) one)
