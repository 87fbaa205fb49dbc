use Rattle.std.proofs.Common.{◌≡◌, Err, Ok, map, refl, subst}
use Rattle.std.specs.Prelude.{string_bytes}
use Rattle.clap.specs.Words.{FailsBy, fault_of}
use Rattle.command_words.specs.Asked.{asked_by, task_view, tmhost}
use Rattle.command_words.specs.declared.words.Task.{Task}
use Rattle.host_cli.proofs.ByWords.{by_words, without_words}
use Rattle.host_cli.proofs.tasks.perform_unsent.Goals as goal

pub returns-in-Ok-read_words : goal.returns-in-Ok-read_words
returns-in-Ok-read_words g c = by_words _ _ _ _ _ _ _ _ refl refl c.in-Ok.words c.in-Ok.is (
  Ok c.in-Ok-read_words.task,
  subst (λ x. FailsBy (fault_of tmhost (map string_bytes x)) (Ok c.in-Ok-read_words.task)) c.as_slice.ensures.value c.in-Ok-read_words.ensures.kinds,
  subst (λ x. task_view c.in-Ok-read_words.task ≡ asked_by (map string_bytes x)) c.as_slice.ensures.value c.in-Ok-read_words.ensures.task,
  (c.do_task.ensures.does, c.do_task.ensures.leaves),
)

pub returns-in-Ok : goal.returns-in-Ok
returns-in-Ok g c = by_words _ _ _ _ _ _ _ _ refl refl c.in-Ok.words c.in-Ok.is (
  Err c.in-Err-read_words.error,
  subst (λ x. FailsBy {T = Task} (fault_of tmhost (map string_bytes x)) (Err c.in-Err-read_words.error)) c.as_slice.ensures.value c.in-Err-read_words.ensures.kinds,
  tt,
  (
    record {
      memory = λ k. let p = c.refuse_words-ending.ensures.memory k in (p.0, (p.1, p.2));
      shown = c.refuse_words-ending.ensures.shown;
      refused = c.refuse_words-ending.ensures.refused;
    },
    (refl, refl, refl, refl),
  ),
)

pub returns : goal.returns
returns g c = without_words _ _ _ _ _ _ _ _ refl refl c.in-Err.kind c.in-Err.is
    (λ k. let p = c.refuse_unread_words-ending.ensures.memory k in (p.0, p.1))
    c.refuse_unread_words-ending.ensures.refused
    ((refl, refl, refl, refl), refl)
