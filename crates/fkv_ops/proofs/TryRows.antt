-- What a try knows at each of its steps, and how it comes to its end.
use Rattle.std.proofs.Common.{◌≡◌, ℕ, ◌+◌, ◌<◌, List, [], ◌∷◌, refl, Bool, true, false, subst}
use Rattle.std.specs.Prelude.{◌&&◌, ◌||◌, not, if◌then◌else◌, Option, Some}
use Rattle.fkv_base.specs.declared.numbers.Addr.{Addr}
use Rattle.fkv_base.specs.declared.numbers.Version.{Version}
use Rattle.fkv_words.specs.Fields.{bit_of}
use Rattle.fkv_map.specs.declared.operations.Reply.{Reply}
use Rattle.fkv_map.specs.Keys.{reply_from}
use Rattle.fkv_plane.specs.declared.places.RecordWord.TheVariants as rec
use Rattle.fkv_plane.specs.Places.{record_place}
use Rattle.fkv_plane.specs.Passing.{is_done}
use Rattle.fkv_latch.specs.declared.latching.LatchTask.TheVariants.{DropShared, DropExclusive}
use Rattle.fkv_latch.specs.declared.latching.Latching.{Latching}
use Rattle.fkv_latch.specs.declared.latching.Latching.TheVariants as latching
use Rattle.fkv_latch.specs.Latching.{one_share}
use Rattle.fkv_ops.specs.declared.answers.TryAnswer.{TryAnswer}
use Rattle.fkv_ops.specs.declared.answers.TryAnswer.TheVariants as answer
use Rattle.fkv_ops.specs.declared.answers.Waiting.{Waiting}
use Rattle.fkv_ops.specs.declared.answers.Waiting.TheVariants.{For, ForRecord}
use Rattle.fkv_ops.specs.Bounds.{bounds_at, has_bounds}
use Rattle.fkv_ops.specs.Waiting.{told_of}
use Rattle.fkv_ops.specs.declared.appending.Appending.{Appending}
use Rattle.fkv_ops.specs.declared.trying.OldValue.{OldValue}
use Rattle.fkv_ops.specs.declared.trying.OldValue.TheVariants.{InMemory, Known}
use Rattle.fkv_ops.specs.declared.trying.Trying.{Trying}
use Rattle.fkv_ops.specs.declared.trying.Trying.TheVariants.{Ended, TakesShared, LoadsPhase, Walks, CountsTaken, LoadsSafe, SwapsValue, LoadsCurrent, ChangesValue, LoadsAnswer, TakesExclusive, LoadsOld, Appends, LoadsTail, LoadsTaken, DropsExclusive, DropsShared}
use Rattle.fkv_ops.specs.declared.walking.Walking.TheVariants.{HasFound as AtFound}
use Rattle.fkv_ops.specs.Values.{value_of}
use Rattle.fkv_ops.specs.Requests.{is_read, is_blind}
use Rattle.fkv_ops.specs.Walking.{WalkState, walk_ask}
use Rattle.fkv_ops.specs.Appending.{append_ask}
use Rattle.fkv_ops.specs.Trying.{TryState, is_wait, is_next_marked, with_latch, ended_without, ends, ends_by, ends_so, takes_effect, words_of}
use Rattle.fkv_ops.specs.TryRun.{Trial, home_at, Told, reply_told}
use Rattle.fkv_ops.specs.Reasons.{latch_place, Loaded, HasEntry, WalksTo, HasFound, HasNoEntry, needs_exclusive, tells_own, OthersWentOn, IsTrue}
use Rattle.fkv_ops.specs.Effects.{MayChange, MayCopy, IsMadeOf, HasSetBit, shares_latch, HasShared, MayStay}
use Rattle.fkv_ops.proofs.Walked.{FoundKnows, WalkKnows, LoadsRecord}
use Rattle.fkv_ops.proofs.Appended.{AppendKnows}

-- a state of this very trial
abbrev pub norm : Trial → TryState → TryState
norm c t = record t { request = c.request; seen = c.seen; occasion = c.occasion; home = home_at c }

-- whether its request shares the latch, once the walk has begun
abbrev pub shares : Trial → Bool
shares c = c.request.has_latch || shares_latch c

pub record Under (c : Trial) (told : Told) (has_shared : Bool) : Type 0 where
  pub shared : has_shared ≡ shares c
  pub has_added : shares_latch c ≡ true → c.request.has_latch ≡ false → HasShared c told
  -- where no record will tell that its session may stay, the phase word has, or the request came with its share
  pub in_phase : is_next_marked c.request.version ≡ true → shares_latch c ≡ true → MayStay c told

-- an update in prepare has seen that its session may stay
abbrev pub Stays : Trial → Told → Type 0
Stays c told = shares_latch c ≡ true → MayStay c told

-- the same of an update that has found its slot
pub record Updates (c : Trial) (told : Told) (t : TryState) : Type 0 where
  pub under : Under c told t.has_shared
  pub update : is_read c.request.op ≡ false
  pub stays : Stays c told
  pub lacks : t.walk.entry ≡ 0 → HasNoEntry c told

-- how the latch is shared
abbrev pub ShareRow : Trial → Told → Latching → Type 0
ShareRow c told (latching.AddsShare place) = place ≡ latch_place c
ShareRow c told (latching.GivesBack place) = (place ≡ latch_place c) × OthersWentOn c told
ShareRow c told step = ⊥

-- and taken alone
abbrev pub AloneRow : Trial → Told → Latching → Type 0
AloneRow c told (latching.LoadsWord place) = place ≡ latch_place c
AloneRow c told (latching.SetsExclusive place word) = (place ≡ latch_place c) × (word < one_share) × Loaded told (latch_place c) word
AloneRow c told step = ⊥

pub record FoundRow (c : Trial) (told : Told) (w : WalkState) (addr : Addr) (version : Version) : Type 0 where
  pub at : w.step ≡ AtFound addr version
  pub its : FoundKnows c told w addr version

-- a record that may be copied
pub record CopyRow (c : Trial) (told : Told) (w : WalkState) (is_current : Bool) : Type 0 where
  pub addr : Addr
  pub version : Version
  pub found : FoundRow c told w addr version
  pub may : MayCopy c told addr.0 version.0
  pub current : tells_own c version.0 ≡ is_current

-- what a new record is to be made of
abbrev pub OldRow : Trial → Told → WalkState → OldValue → Bool → Type 0
OldRow c told w InMemory is_current = CopyRow c told w is_current
OldRow c told w (Known word) is_current = IsMadeOf c told w.place w.entry (value_of word) is_current

-- the exclusive latch, where it is needed
abbrev pub Alone : Trial → Told → Bool → Type 0
Alone c told is_current = needs_exclusive c is_current ≡ true → HasSetBit c told

pub record AloneKnows (c : Trial) (told : Told) (t : TryState) (old : OldValue) : Type 0 where
  pub not_alone : t.has_exclusive ≡ false
  pub updates : Updates c told t
  pub slot : HasEntry c told t.walk.place t.walk.entry
  pub is_current : Bool
  pub its_old : OldRow c told t.walk old is_current
  pub need : needs_exclusive c is_current ≡ true
  pub its_latching : AloneRow c told t.latching

pub record OldKnows (c : Trial) (told : Told) (t : TryState) : Type 0 where
  pub updates : Updates c told t
  pub addr : Addr
  pub version : ℕ
  pub found : HasFound c told t.walk.place t.walk.entry addr.0 version
  pub may : MayCopy c told addr.0 version
  pub alone : Alone c told (tells_own c version)
  pub loads : LoadsRecord t.walk addr

pub record AppendsKnow (c : Trial) (told : Told) (t : TryState) (its : Reply) : Type 0 where
  pub updates : Updates c told t
  pub place : ℕ
  pub entry : ℕ
  pub old : Option ℕ
  pub is_current : Bool
  pub its_reply : its ≡ reply_from old c.request.op
  pub made_of : IsMadeOf c told place entry old is_current
  pub alone : Alone c told is_current
  pub last : Appending
  pub appends : AppendKnows c told (record { place = place; entry = entry; tag = (home_at c).tag }) (words_of c.request entry old) last t.append
  pub asks : is_done (append_ask c.places t.append) ≡ false

pub record SafeKnows (c : Trial) (told : Told) (t : TryState) (addr : Addr) (version : Version) : Type 0 where
  pub not_alone : t.has_exclusive ≡ false
  pub updates : Updates c told t
  pub found : FoundRow c told t.walk addr version
  pub below : addr.0 < c.seen.offsets.read_only.0

pub record AnswerKnows (c : Trial) (told : Told) (t : TryState) : Type 0 where
  pub under : Under c told t.has_shared
  pub reads : is_read c.request.op ≡ true
  pub addr : Addr
  pub version : ℕ
  pub found : HasFound c told t.walk.place t.walk.entry addr.0 version
  pub loads : LoadsRecord t.walk addr

pub record ShareKnows (c : Trial) (told : Told) (t : TryState) : Type 0 where
  pub not_alone : t.has_exclusive ≡ false
  pub not_shared : t.has_shared ≡ false
  pub wants : shares_latch c ≡ true
  pub has_none : c.request.has_latch ≡ false
  pub its_latching : ShareRow c told t.latching

pub record PhaseKnows (c : Trial) (told : Told) (t : TryState) : Type 0 where
  pub not_alone : t.has_exclusive ≡ false
  pub shared : t.has_shared ≡ true
  pub wants : shares_latch c ≡ true
  pub added : HasShared c told
  pub marked : is_next_marked c.request.version ≡ true

pub record WalksKnow (c : Trial) (told : Told) (t : TryState) : Type 0 where
  pub not_alone : t.has_exclusive ≡ false
  pub under : Under c told t.has_shared
  pub walks : WalkKnows c told t.walk
  pub asks : is_done (walk_ask c.places t.walk) ≡ false

-- an empty slot was found, by an update that has bounds
pub record CountKnows (c : Trial) (told : Told) (t : TryState) : Type 0 where
  pub not_alone : t.has_exclusive ≡ false
  pub updates : Updates c told t
  pub walks : WalksTo c told t.walk.place t.walk.entry 0
  pub empty : t.walk.entry ≡ 0

-- an update that has bounds would wait, and for this
pub record TailKnows (c : Trial) (told : Told) (t : TryState) (waiting : Waiting) : Type 0 where
  pub truth : IsTrue c told (told_of waiting)
  pub shared : t.has_shared ≡ shares c
  pub update : is_read c.request.op ≡ false
  pub lacks : t.walk.entry ≡ 0 → HasNoEntry c told

pub record TakenKnows (c : Trial) (told : Told) (t : TryState) (waiting : Waiting) : Type 0 where
  pub truth : IsTrue c told (told_of waiting)
  pub shared : t.has_shared ≡ shares c
  pub update : is_read c.request.op ≡ false
  pub none : HasNoEntry c told

-- at the end, and while latches are dropped
pub record EndKnows (c : Trial) (told : Told) (t : TryState) (its : TryAnswer) : Type 0 where
  pub truth : IsTrue c told its
  pub not_alone : t.has_exclusive ≡ false
  pub shared : t.has_shared ≡ (is_wait its && shares c)

pub record DropKnows (c : Trial) (told : Told) (t : TryState) (its : TryAnswer) : Type 0 where
  pub truth : IsTrue c told its
  pub not_alone : t.has_exclusive ≡ false
  pub shared : is_wait its ≡ true → t.has_shared ≡ shares c
  pub its_latching : t.latching ≡ latching.DropsExclusive (latch_place c)

pub record UnshareKnows (c : Trial) (told : Told) (t : TryState) (its : TryAnswer) : Type 0 where
  pub its_end : EndKnows c told t its
  pub its_latching : t.latching ≡ latching.DropsShare (latch_place c)

abbrev pub TryRow : Trial → Told → TryState → Trying → Type 0
TryRow c told t (Ended its) = EndKnows c told t its
TryRow c told t TakesShared = ShareKnows c told t
TryRow c told t LoadsPhase = PhaseKnows c told t
TryRow c told t Walks = WalksKnow c told t
TryRow c told t CountsTaken = CountKnows c told t
TryRow c told t (LoadsSafe addr version) = SafeKnows c told t addr version
TryRow c told t (SwapsValue addr) = Updates c told t × MayChange c told addr.0 × (is_blind c.request.op ≡ true)
TryRow c told t (LoadsCurrent addr) = Updates c told t × MayChange c told addr.0 × LoadsRecord t.walk addr
TryRow c told t (ChangesValue addr old) = Updates c told t × MayChange c told addr.0 × Loaded told (record_place c.places addr.0 rec.Value) old
TryRow c told t LoadsAnswer = AnswerKnows c told t
TryRow c told t (TakesExclusive old) = AloneKnows c told t old
TryRow c told t LoadsOld = OldKnows c told t
TryRow c told t (Appends its) = AppendsKnow c told t its
TryRow c told t (LoadsTail waiting) = TailKnows c told t waiting
TryRow c told t (LoadsTaken waiting) = TakenKnows c told t waiting
TryRow c told t (DropsExclusive its) = DropKnows c told t its
TryRow c told t (DropsShared its) = UnshareKnows c told t its

-- what an update is to be told, from the step on that made its effect
abbrev pub told_at : Trying → List Reply
told_at (Ended its) = reply_told its
told_at (DropsExclusive its) = reply_told its
told_at (DropsShared its) = reply_told its
told_at step = []

-- what a try has yet to do with the latch: shares to be taken off or kept, and bits to be cleared
pub record Owed : Type 0 where
  pub shares : ℕ
  pub bits : ℕ

abbrev pub latch_held : TryState → Owed
latch_held t = record { shares = bit_of t.has_shared; bits = bit_of t.has_exclusive }

abbrev pub giving : Latching → ℕ
giving (latching.GivesBack place) = 1
giving step = 0

abbrev pub owed_at : TryState → Trying → Owed
owed_at t TakesShared = record { shares = bit_of t.has_shared + giving t.latching; bits = bit_of t.has_exclusive }
owed_at t (DropsExclusive its) = record { shares = bit_of t.has_shared; bits = bit_of t.has_exclusive + 1 }
owed_at t (DropsShared its) = record { shares = bit_of t.has_shared + 1; bits = bit_of t.has_exclusive }
owed_at t step = latch_held t

-- a try has come to a state, by an effect or none
pub record Comes (c : Trial) (told : Told) (effect : Option Reply) (its : List Reply) (owed : Owed) (t : TryState) : Type 0 where
  pub owes : owed_at t t.step ≡ owed
  pub same : t ≡ norm c t
  pub its_effect : t.effect ≡ effect
  pub its_told : told_at t.step ≡ its
  pub row : TryRow c told t t.step

pub ended_without_true : (c : Trial) (told : Told) (t : TryState) (its : TryAnswer) → IsTrue c told its → t.has_exclusive ≡ false → (is_wait its ≡ true → t.has_shared ≡ shares c) → Comes c told t.effect (reply_told its) (latch_held t) (ended_without c.places (norm c t) its)
ended_without_true c told t its truth not_alone kept = by_cases t.has_shared (is_wait its) refl refl
  where
    by_cases : (a b : Bool) → t.has_shared ≡ a → is_wait its ≡ b
        → Comes c told t.effect (reply_told its) (latch_held t) (if a && not b then with_latch c.places (record (norm c t) { has_shared = false }) DropShared (DropsShared its) else record (norm c t) { step = Ended its })
    by_cases true false d e = record {
      same = refl;
      owes = rw d refl;
      its_effect = refl;
      its_told = refl;
      row = record { its_end = record { truth = truth; not_alone = not_alone; shared = rw e refl }; its_latching = refl };
    }
    by_cases true true d e = record { same = refl; owes = refl; its_effect = refl; its_told = refl; row = record { truth = truth; not_alone = not_alone; shared = rw e (kept e) } }
    by_cases false true d e = record { same = refl; owes = refl; its_effect = refl; its_told = refl; row = record { truth = truth; not_alone = not_alone; shared = rw e (kept e) } }
    by_cases false false d e = record { same = refl; owes = refl; its_effect = refl; its_told = refl; row = record { truth = truth; not_alone = not_alone; shared = rw e d } }

pub ends_so_true : (c : Trial) (told : Told) (t : TryState) (its : TryAnswer) → IsTrue c told its → (is_wait its ≡ true → t.has_shared ≡ shares c) → Comes c told t.effect (reply_told its) (latch_held t) (ends_so c.places (norm c t) its)
unfolding ends_so
ends_so_true c told t its truth kept = by_alone t.has_exclusive refl
  where
    by_alone : (b : Bool) → t.has_exclusive ≡ b
        → Comes c told t.effect (reply_told its) (latch_held t) (if b then with_latch c.places (record (norm c t) { has_exclusive = false }) DropExclusive (DropsExclusive its) else ended_without c.places (norm c t) its)
    by_alone true e = record { same = refl; owes = rw e refl; its_effect = refl; its_told = refl; row = record { truth = truth; not_alone = refl; shared = kept; its_latching = refl } }
    by_alone false e = ended_without_true c told t its truth e kept

-- an update at its call, where calls have bounds
abbrev pub bounded : Trial → Bool
bounded c = has_bounds (bounds_at c.occasion) && not (is_read c.request.op)

-- where such an update would wait and has met no entry, there is none
abbrev pub Lacks : Trial → Told → TryState → TryAnswer → Type 0
Lacks c told t its = bounded c ≡ true → is_wait its ≡ true → t.walk.entry ≡ 0 → HasNoEntry c told

pub told_none : (waiting : Waiting) → reply_told (told_of waiting) ≡ []
told_none (For reason) = refl
told_none (ForRecord its) = refl

is_update : (a b : Bool) → (a && not b) ≡ true → b ≡ false
is_update true true e = cc
is_update true false e = refl
is_update false b e = cc

waits_true : (c : Trial) (told : Told) (t : TryState) (waiting : Waiting) → IsTrue c told (told_of waiting) → t.has_shared ≡ shares c → (bounded c ≡ true → t.walk.entry ≡ 0 → HasNoEntry c told)
    → Comes c told t.effect [] (latch_held t) (ends_by c.places (norm c t) (told_of waiting) (Some waiting))
waits_true c told t waiting truth kept lacks = by_bounds (bounded c) refl
  where
    by_bounds : (b : Bool) → bounded c ≡ b → Comes c told t.effect [] (latch_held t) (if b then record (norm c t) { step = LoadsTail waiting } else ends_so c.places (norm c t) (told_of waiting))
    by_bounds true e = record { same = refl; owes = refl; its_effect = refl; its_told = refl; row = record { truth = truth; shared = kept; update = is_update (has_bounds (bounds_at c.occasion)) (is_read c.request.op) e; lacks = lacks e } }
    by_bounds false e = subst (λ l. Comes c told t.effect l (latch_held t) (ends_so c.places (norm c t) (told_of waiting))) (told_none waiting) (ends_so_true c told t (told_of waiting) truth (λ waits. kept))

pub ends_true : (c : Trial) (told : Told) (t : TryState) (its : TryAnswer) → IsTrue c told its → (is_wait its ≡ true → t.has_shared ≡ shares c) → Lacks c told t its → Comes c told t.effect (reply_told its) (latch_held t) (ends c.places (norm c t) its)
unfolding ends
ends_true c told t (answer.Wait reason) truth kept lacks = waits_true c told t (For reason) truth (kept refl) (λ e. lacks e refl)
ends_true c told t (answer.AwaitsDisk its) truth kept lacks = waits_true c told t (ForRecord its) truth (kept refl) (λ e. lacks e refl)
ends_true c told t its truth kept lacks = ends_so_true c told t its truth kept

pub takes_effect_true : (c : Trial) (told : Told) (t : TryState) (its : Reply) → Updates c told t → Comes c told (Some its) (its ∷ []) (latch_held t) (takes_effect c.places (norm c t) its)
takes_effect_true c told t its updates = ends_true c told (record t { effect = Some its }) (answer.Done its) updates.update (λ e. cc) (λ bounds e. cc)
