use Rattle.std.proofs.Common.{◌≡◌, ◌++◌, ◌+◌, ◌<◌, [], List, ℕ, get_or, length, ap, sym, ◌∙◌, subst, OnErr, OnOk, vec_capacity, vec_len}
use Rattle.journal.specs.Area.{IsPayload, record_of}
use Rattle.journal.specs.Limits.{longest_payload}
use Rattle.recovery.specs.Code.{code_of}
use Rattle.recovery.specs.declared.records.Record.{Record}
use Rattle.recovery.specs.inside.Measured.{HasRecord}
use Rattle.recovery.specs.inside.Records.{op_in}
use Rattle.recovery.proofs.Sourcing.{at_place, has_at, is_payload, on_ok}
use Rattle.recovery.proofs.records.AgainSource.put_record.Goals as goal

pub put_record-requires : goal.put_record-requires
put_record-requires c =
    let some = subst (λ (l : List (List ℕ)). c.args.index < length l) (sym c.self.view_is) c.requires in
    subst (λ (r : Record). HasRecord (op_in r)) (sym c.index.ensures) (has_at c.self.inside.records.items c.args.index c.index.result.now c.self.invariant some)

pub returns-clause-record : goal.returns-clause-record
returns-clause-record c =
    let some = subst (λ (l : List (List ℕ)). c.args.index < length l) (sym c.self.view_is) c.requires in
    let place : get_or c.args.self.now c.args.index [] ≡ code_of (op_in c.index.result.now) =
    ap (λ (l : List (List ℕ)). get_or l c.args.index []) (sym c.self.view_is) ∙ at_place c.self.inside.records.items c.args.index c.index.result.now some ∙ ap (λ (r : Record). code_of (op_in r)) (sym c.index.ensures) in
    subst (λ (p : List ℕ). OnOk c.put_record.result (c.put_record.new.out.items ≡ c.args.out.now.items ++ record_of p)) (sym place) c.put_record.ensures.record

pub returns-clause-payload : goal.returns-clause-payload
returns-clause-payload c =
    let some = subst (λ (l : List (List ℕ)). c.args.index < length l) (sym c.self.view_is) c.requires in
    let place : get_or c.args.self.now c.args.index [] ≡ code_of (op_in c.index.result.now) =
    ap (λ (l : List (List ℕ)). get_or l c.args.index []) (sym c.self.view_is) ∙ at_place c.self.inside.records.items c.args.index c.index.result.now some ∙ ap (λ (r : Record). code_of (op_in r)) (sym c.index.ensures) in
    let has = subst (λ (r : Record). HasRecord (op_in r)) (sym c.index.ensures) (has_at c.self.inside.records.items c.args.index c.index.result.now c.self.invariant some) in
    on_ok c.put_record.result (IsPayload longest_payload (get_or c.args.self.now c.args.index [])) (subst (λ (p : List ℕ). IsPayload longest_payload p) (sym place) (is_payload (op_in c.index.result.now) has))

pub returns-clause-full : goal.returns-clause-full
returns-clause-full c =
    let some = subst (λ (l : List (List ℕ)). c.args.index < length l) (sym c.self.view_is) c.requires in
    let place : get_or c.args.self.now c.args.index [] ≡ code_of (op_in c.index.result.now) =
    ap (λ (l : List (List ℕ)). get_or l c.args.index []) (sym c.self.view_is) ∙ at_place c.self.inside.records.items c.args.index c.index.result.now some ∙ ap (λ (r : Record). code_of (op_in r)) (sym c.index.ensures) in
    subst (λ (p : List ℕ). OnErr c.put_record.result (vec_capacity c.args.out.now < vec_len c.args.out.now + 5 + length p)) (sym place) c.put_record.ensures.room
