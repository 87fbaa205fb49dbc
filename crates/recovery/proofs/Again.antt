-- An op is read again from its payload.
use Rattle.std.proofs.Common.{◌≡◌, ℕ, ◌<◌, ◌≤◌, ◌-◌, ◌^◌, ◌==◌, if◌then◌else◌, Bool, true, false, List, [], ◌∷◌, ◌++◌, length, drop, get_or, take, Option, Some, None, Result, Ok, Err, refl, sym, ap, ◌∙◌, subst, arith}
use Rattle.std.specs.List.{flat_map}
use Rattle.block_tree.specs.declared.reason.Reason.{Reason}
use Rattle.block_tree.specs.declared.reason.Reason.TheVariants as reason
use Rattle.block_tree.specs.Reasons.{reason_number}
use Rattle.std.proofs.lemmas.List.{take_all}
use Rattle.block_tree.specs.Tree.{Tree}
use Rattle.meta_format.specs.Limits.{limits}
use Rattle.meta_format.specs.Spelling.{Spells}
use Rattle.meta_format.specs.Canonical.{canonical}
use Rattle.meta_format.proofs.Unique.{one_block}
use Rattle.meta_format.proofs.Written.{canonical_spells}
use Rattle.worksheet.specs.declared.op.Op.{Op}
use Rattle.worksheet.specs.declared.op.Op.TheVariants as op
use Rattle.recovery.specs.declared.reading.DecodeFault.{DecodeFault}
use Rattle.recovery.specs.declared.reading.DecodeFault.TheVariants as faults
use Rattle.recovery.specs.Code.{kind_of, parts_of, code_of, number, short, long, flag, HasCode, IsTyped, IsPayloadOf}
use Rattle.recovery.specs.inside.Reading.{ReadsOrFails, Fails, FindsOp, session_at, new_at, set_at, remove_at, move_at, clear_at, lost_at, reason_with, asked_at, ids_at}
use Rattle.recovery.proofs.Fields.{number_again, last_number_again, short_again, long_again, last_long_again, words_again}

-- reading the parts of an op of this kind gives the op
abbrev pub IsReader : ℕ → (List ℕ → Option Op) → Type 0
IsReader kind read = (o : Op) → kind_of o ≡ kind → IsTyped o → HasCode o → read (parts_of o) ≡ Some o

flag_again : (tab : Bool) → (flag tab == 1) ≡ tab
flag_again false = refl
flag_again true = refl

-- what reads the parts of an op of this kind; an answer is read by its own rule
abbrev pub parts_at : ℕ → List ℕ → Option Op
parts_at kind =
    if kind == 1 then session_at else if kind == 2 then new_at else if kind == 3 then set_at
    else if kind == 4 then remove_at else if kind == 5 then move_at else if kind == 6 then clear_at else if kind == 8 then lost_at
    else ids_at

reason_again : (r : Reason) → reason_with (reason_number r) ≡ Some r
reason_again reason.StartRefused = refl
reason_again reason.Ended = refl
reason_again reason.ReadFault = refl
reason_again reason.SendFault = refl
reason_again reason.Stalled = refl
reason_again reason.BadTag = refl
reason_again reason.TooDeep = refl
reason_again reason.TooLong = refl
reason_again reason.Stopped = refl

read_again : (o : Op) → IsTyped o → HasCode o → (kind_of o == 7) ≡ false → parts_at (kind_of o) (parts_of o) ≡ Some o
unfolding session_at new_at set_at remove_at move_at clear_at lost_at ids_at
read_again (op.Session name tab words) typed fits other =
    rw (short_again name (flag tab ∷ length words ∷ flat_map long words), words_again words fits.2, flag_again tab) refl
read_again (op.New after session input) typed fits other =
    rw (number_again after (short session ++ long input) typed, short_again session (long input), last_long_again input fits.1) refl
read_again (op.Set id input) typed fits other =
    rw (number_again id (long input) typed, last_long_again input fits) refl
read_again (op.Remove id) typed fits other = rw (last_number_again id typed) refl
read_again (op.Move id after) typed fits other = rw (number_again id (number after) typed.0, last_number_again after typed.1) refl
read_again (op.Clear id) typed fits other = rw (last_number_again id typed) refl
read_again (op.Answer id prompt output) typed fits other = cc
read_again (op.Lost id reason) typed fits other = rw (number_again id (reason_number reason ∷ []) typed, reason_again reason) refl
read_again (op.Ids next) typed fits other = rw (last_number_again next typed) refl

reads : (kind : ℕ) → (kind == 7) ≡ false → IsReader kind (parts_at kind)
reads kind other o k typed fits =
    subst (λ (n : ℕ). parts_at n (parts_of o) ≡ Some o) k (read_again o typed fits (subst (λ (n : ℕ). (n == 7) ≡ false) (sym k) other))

pub session_again : IsReader 1 session_at
session_again = reads 1 refl

pub new_again : IsReader 2 new_at
new_again = reads 2 refl

pub set_again : IsReader 3 set_at
set_again = reads 3 refl

pub remove_again : IsReader 4 remove_at
remove_again = reads 4 refl

pub move_again : IsReader 5 move_at
move_again = reads 5 refl

pub clear_again : IsReader 6 clear_at
clear_again = reads 6 refl

pub lost_again : IsReader 8 lost_at
lost_again = reads 8 refl

pub ids_again : IsReader 9 ids_at
ids_again = reads 9 refl

pub asked_again : (id : ℕ) (prompt rest : List ℕ) → id < 2 ^ 32 → length prompt < 2 ^ 16 → asked_at (number id ++ (long prompt ++ rest)) ≡ Some ((id, prompt), rest)
unfolding asked_at
asked_again id prompt rest typed fits = rw (number_again id (long prompt ++ rest) typed, long_again prompt rest fits) refl

-- what a reader of this kind found
found : (read : Option Op) (result : Result Op DecodeFault) (o : Op) → ReadsOrFails (λ x. x) result read → read ≡ Some o → FindsOp o result
found read (Ok x) o gives is = let same : Some x ≡ Some o = sym gives ∙ is in cc
found read (Err faults.OutOfMemory) o gives is = tt
found read (Err faults.Unreadable) o gives is = let no : None ≡ Some o = sym gives ∙ is in absurd cc

pub found_by : (kind : ℕ) (read : List ℕ → Option Op) → IsReader kind read → (bytes rest : List ℕ) → bytes ≡ kind ∷ rest → (result : Result Op DecodeFault) → ReadsOrFails (λ x. x) result (read rest)
    → (o : Op) → IsPayloadOf o bytes → FindsOp o result
found_by kind read reads bytes rest front result gives o payload =
    let same : kind ∷ rest ≡ kind_of o ∷ parts_of o = sym front ∙ payload.is in
    let k : kind_of o ≡ kind = cc in
    let parts : rest ≡ parts_of o = cc in
    found (read rest) result o gives (ap read parts ∙ reads o k payload.typed payload.fits)

-- where an op was found, these aren't unreadable
pub unread : (result : Result Op DecodeFault) (o : Op) → result ≡ Err faults.Unreadable → FindsOp o result → ⊥
unread result o wrong finds = subst (λ (r : Result Op DecodeFault). FindsOp o r) wrong finds

-- what begins with a byte
abbrev pub following_first : List ℕ → List ℕ
following_first bytes = take (length bytes - 1) (drop 1 bytes)

pub first_and_rest : (bytes : List ℕ) (n : ℕ) → 1 ≤ length bytes → get_or bytes 0 0 ≡ n → bytes ≡ n ∷ following_first bytes
first_and_rest [] n some is = absurd (omega (arith, some))
first_and_rest (b ∷ bytes) n some is =
    let whole : take (length (b ∷ bytes) - 1) bytes ≡ bytes = take_all (length (b ∷ bytes) - 1) bytes (omega arith) in
    ap (λ (x : ℕ). x ∷ bytes) is ∙ ap (λ (l : List ℕ). n ∷ l) (sym whole)

-- bytes in which no number and prompt are found are no answer's
pub no_answer : (bytes : List ℕ) → asked_at bytes ≡ None → (o : Op) → IsPayloadOf o (7 ∷ bytes) → ⊥
no_answer bytes none (op.Answer id prompt output) payload =
    let parts : bytes ≡ parts_of (op.Answer id prompt output) = let whole : 7 ∷ bytes ≡ 7 ∷ parts_of (op.Answer id prompt output) = payload.is in cc in
    let some : asked_at bytes ≡ Some ((id, prompt), canonical output) = ap asked_at parts ∙ asked_again id prompt (canonical output) payload.typed.0 payload.fits in
    let no : None ≡ Some ((id, prompt), canonical output) = sym none ∙ some in absurd cc
no_answer bytes none (op.Session name tab words) payload = let no : 7 ∷ bytes ≡ code_of (op.Session name tab words) = payload.is in absurd cc
no_answer bytes none (op.New after session input) payload = let no : 7 ∷ bytes ≡ code_of (op.New after session input) = payload.is in absurd cc
no_answer bytes none (op.Set id input) payload = let no : 7 ∷ bytes ≡ code_of (op.Set id input) = payload.is in absurd cc
no_answer bytes none (op.Remove id) payload = let no : 7 ∷ bytes ≡ code_of (op.Remove id) = payload.is in absurd cc
no_answer bytes none (op.Move id after) payload = let no : 7 ∷ bytes ≡ code_of (op.Move id after) = payload.is in absurd cc
no_answer bytes none (op.Clear id) payload = let no : 7 ∷ bytes ≡ code_of (op.Clear id) = payload.is in absurd cc
no_answer bytes none (op.Lost id reason) payload = let no : 7 ∷ bytes ≡ code_of (op.Lost id reason) = payload.is in absurd cc
no_answer bytes none (op.Ids next) payload = let no : 7 ∷ bytes ≡ code_of (op.Ids next) = payload.is in absurd cc

abbrev pub just : {A : Type 0} → A → Option A
just x = Some x

pub some_is : {A : Type 0} (x y : A) → just x ≡ just y → x ≡ y
some_is x y e = cc

-- a fault of reading them is none that an answer's payload meets
pub no_fault : (fault : DecodeFault) (bytes : List ℕ) → Fails fault (asked_at bytes) → (o : Op) → IsPayloadOf o (7 ∷ bytes) → FindsOp o (Err fault)
no_fault faults.OutOfMemory bytes fails o payload = tt
no_fault faults.Unreadable bytes fails o payload = no_answer bytes fails o payload

-- an answer in these parts
pub record IsAnswerOf (o : Op) (id : ℕ) (prompt rest : List ℕ) : Type 0 where
  pub output : Tree
  pub is : op.Answer id prompt output ≡ o
  pub spelled : Spells limits output rest

pub answer_in : (bytes rest prompt : List ℕ) (id : ℕ) → asked_at bytes ≡ Some ((id, prompt), rest) → (o : Op) → IsPayloadOf o (7 ∷ bytes) → IsAnswerOf o id prompt rest
answer_in bytes rest prompt id read (op.Answer n p output) payload =
    let parts : bytes ≡ parts_of (op.Answer n p output) = let whole : 7 ∷ bytes ≡ 7 ∷ parts_of (op.Answer n p output) = payload.is in cc in
    let some : asked_at bytes ≡ Some ((n, p), canonical output) = ap asked_at parts ∙ asked_again n p (canonical output) payload.typed.0 payload.fits in
    let same : ((id, prompt), rest) ≡ ((n, p), canonical output) = some_is ((id, prompt), rest) ((n, p), canonical output) (sym read ∙ some) in
    let number_is : id ≡ n = ap (λ (x : (ℕ × List ℕ) × List ℕ). x.0.0) same in
    let prompt_is : prompt ≡ p = ap (λ (x : (ℕ × List ℕ) × List ℕ). x.0.1) same in
    let rest_is : rest ≡ canonical output = ap (λ (x : (ℕ × List ℕ) × List ℕ). x.1) same in
    record {
      output = output;
      is = ap (λ (k : ℕ). op.Answer k prompt output) number_is ∙ ap (λ (q : List ℕ). op.Answer n q output) prompt_is;
      spelled = subst (λ (s : List ℕ). Spells limits output s) (sym rest_is) (canonical_spells limits output payload.typed.1);
    }
answer_in bytes rest prompt id read (op.Session name tab words) payload = let no : 7 ∷ bytes ≡ code_of (op.Session name tab words) = payload.is in absurd cc
answer_in bytes rest prompt id read (op.New after session input) payload = let no : 7 ∷ bytes ≡ code_of (op.New after session input) = payload.is in absurd cc
answer_in bytes rest prompt id read (op.Set n input) payload = let no : 7 ∷ bytes ≡ code_of (op.Set n input) = payload.is in absurd cc
answer_in bytes rest prompt id read (op.Remove n) payload = let no : 7 ∷ bytes ≡ code_of (op.Remove n) = payload.is in absurd cc
answer_in bytes rest prompt id read (op.Move n after) payload = let no : 7 ∷ bytes ≡ code_of (op.Move n after) = payload.is in absurd cc
answer_in bytes rest prompt id read (op.Clear n) payload = let no : 7 ∷ bytes ≡ code_of (op.Clear n) = payload.is in absurd cc
answer_in bytes rest prompt id read (op.Lost n reason) payload = let no : 7 ∷ bytes ≡ code_of (op.Lost n reason) = payload.is in absurd cc
answer_in bytes rest prompt id read (op.Ids n) payload = let no : 7 ∷ bytes ≡ code_of (op.Ids n) = payload.is in absurd cc

-- the block that was read is the answer's
pub same_answer : (o : Op) (id : ℕ) (prompt rest : List ℕ) (output : Tree) → IsAnswerOf o id prompt rest → Spells limits output rest → op.Answer id prompt output ≡ o
same_answer o id prompt rest output answer spelled = ap (λ (t : Tree). op.Answer id prompt t) (one_block limits output answer.output rest spelled answer.spelled) ∙ answer.is
