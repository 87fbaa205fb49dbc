-- Worksheets that are checked one after another: how those ended that were, and those to come.
use Rattle.std.proofs.Common.{◌≡◌, ◌∙◌, true, false, List, [], ◌∷◌, ◌++◌, map, refl, sym, ap, subst}
use Rattle.std.specs.Bool.{MatchBool}
use Rattle.std.specs.Borrow.{Bor}
use Rattle.clap.specs.Words.{Text}
use Rattle.host_cli.specs.Plans.{CheckPlan}
use Rattle.host_cli.specs.Outside.{OutsideView}
use Rattle.host_cli.specs.Tasks.{ComparesEach, ComparesNext, OnlyWritten, streams_of}
use Rattle.program_endings.specs.SeveralProgram.{TotalEnds, ending_of, is_unwritten, total_of}
use Rattle.program_endings.specs.declared.check_program.CheckEnding.{CheckEnding}
use Rattle.program_endings.specs.declared.ending.Ending.{Ending}
use Rattle.host_cli.specs.declared.outside.Outside.{Outside}
use Rattle.program_endings.specs.declared.several_program.Total.{Total}

abbrev pub texts : List (Bor Text) → List Text
texts paths = map (λ (path : Bor Text). path.now) paths

-- these worksheets are to come of all, from here, and this is the total of those before
pub record EachSoFar {Y D P S I W E Q : Type 0} (o : OutsideView D P S I W E) (c : CheckPlan) (all left : List (Bor Text)) (start s : Outside Y D P S I W E Q) (total : Total) : Type 0 where
  pub ends : List CheckEnding
  pub sum : total ≡ total_of ends
  pub whole : (new : Outside Y D P S I W E Q) (ending : Ending) → ComparesEach o c ends (texts left) s new ending → ComparesEach o c [] (texts all) start new ending

pub none_checked : {Y D P S I W E Q : Type 0} (o : OutsideView D P S I W E) (c : CheckPlan) (all left : List (Bor Text)) (start : Outside Y D P S I W E Q) (total : Total) → total ≡ total_of [] → left ≡ all
    → EachSoFar o c all left start start total
none_checked o c all left start total e is = record {
  ends = [];
  sum = e;
  whole = λ new ending h. subst (λ l. ComparesEach o c [] (texts l) start new ending) is h;
}

-- one more ended, and the output took all that it wrote
pub one_checked : {Y D P S I W E Q : Type 0} (o : OutsideView D P S I W E) (c : CheckPlan) (all left : List (Bor Text)) (path : Bor Text) (others : List (Bor Text)) (start s t : Outside Y D P S I W E Q) (total more : Total) (end : CheckEnding)
    → left ≡ path ∷ others → EachSoFar o c all left start s total → ComparesNext o s t end path.now c → is_unwritten end.answer ≡ false
    → ((ends : List CheckEnding) → total ≡ total_of ends → more ≡ total_of (ends ++ end ∷ [])) → EachSoFar o c all others start t more
one_checked o c all left path others start s t total more end e so next on with_it = record {
  ends = so.ends ++ end ∷ [];
  sum = with_it so.ends so.sum;
  whole = λ new ending h. so.whole new ending (subst (λ l. ComparesEach o c so.ends (texts l) s new ending) (sym e)
      (end, t, next, subst (λ b. MatchBool b ((new ≡ t) × (ending ≡ ending_of (total_of (so.ends ++ end ∷ [])))) (ComparesEach o c (so.ends ++ end ∷ []) (texts others) t new ending)) (sym on) h));
}

-- the output failed at one more, which is the last
pub one_broke : {Y D P S I W E Q : Type 0} (o : OutsideView D P S I W E) (c : CheckPlan) (all left : List (Bor Text)) (path : Bor Text) (others : List (Bor Text)) (start s t : Outside Y D P S I W E Q) (total more : Total) (end : CheckEnding) (ending : Ending)
    → left ≡ path ∷ others → EachSoFar o c all left start s total → ComparesNext o s t end path.now c → is_unwritten end.answer ≡ true
    → ((ends : List CheckEnding) → total ≡ total_of ends → more ≡ total_of (ends ++ end ∷ [])) → ending ≡ ending_of more → ComparesEach o c [] (texts all) start t ending
one_broke o c all left path others start s t total more end ending e so next broke with_it is =
    so.whole t ending (subst (λ l. ComparesEach o c so.ends (texts l) s t ending) (sym e) (
      end,
      t,
      next,
      subst (λ b. MatchBool b ((t ≡ t) × (ending ≡ ending_of (total_of (so.ends ++ end ∷ [])))) (ComparesEach o c (so.ends ++ end ∷ []) (texts others) t t ending)) (sym broke)
          (refl, is ∙ ap ending_of (with_it so.ends so.sum)),
    ))

-- none is left, and the total was written, or couldn't be
pub all_checked : {Y D P S I W E Q : Type 0} (o : OutsideView D P S I W E) (c : CheckPlan) (all left : List (Bor Text)) (start s t : Outside Y D P S I W E Q) (total : Total) (ending : Ending)
    → left ≡ [] → EachSoFar o c all left start s total → OnlyWritten s t → TotalEnds total (streams_of o s t) ending → ComparesEach o c [] (texts all) start t ending
all_checked o c all left start s t total ending e so only ends =
    so.whole t ending (subst (λ l. ComparesEach o c so.ends (texts l) s t ending) (sym e) (only, subst (λ x. TotalEnds x (streams_of o s t) ending) so.sum ends))

pub ruleset each_steps = (none_checked, one_checked, one_broke, all_checked)
