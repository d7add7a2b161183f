-- The commit in hand counts as copied only where a copy of it has ended, and it stays the same from a copy's begin to its end.
use Rattle.std.proofs.Common.{◌≡◌, ◌⊎◌, inl, inr, ℕ, ◌∙◌, List, refl, sym, ap, subst, Bool, true, false}
use Rattle.std.specs.Prelude.{Option, Some, None, if◌then◌else◌, not, ◌||◌}
use Rattle.fkv_base.specs.declared.numbers.Addr.{Addr}
use Rattle.fkv_base.specs.declared.phases.Phase.TheVariants as phase
use Rattle.fkv_base.specs.declared.shapes.Shape.{Shape}
use Rattle.fkv_words.specs.declared.phase_words.PhaseSaid.{PhaseSaid}
use Rattle.fkv_words.specs.declared.phase_words.PhaseSaid.TheVariants.{Says}
use Rattle.fkv_words.specs.PhaseWords.{phase_said}
use Rattle.fkv_plane.specs.declared.actions.Action.{Action}
use Rattle.fkv_plane.specs.declared.asks.Ask.{Ask}
use Rattle.fkv_plane.specs.declared.asks.Ask.TheVariants.{Done}
use Rattle.fkv_plane.specs.declared.places.Places.{Places}
use Rattle.law_refine.specs.Below.fkv_commit.Commit.{Commit}
use Rattle.fkv_base.specs.declared.commits.CommitKind.{CommitKind}
use Rattle.fkv_base.specs.declared.commits.CommitKind.TheVariants.{Full, Log}
use Rattle.law_refine.specs.Below.fkv_commit.EnterAnswer.{EnterAnswer}
use Rattle.law_refine.specs.Below.fkv_commit.EnterAnswer.TheVariants as enter
use Rattle.law_refine.specs.Below.fkv_commit.FinishAnswer.{FinishAnswer}
use Rattle.law_refine.specs.Below.fkv_commit.SeekAnswer.{SeekAnswer}
use Rattle.law_refine.specs.Below.fkv_commit.SeekAnswer.TheVariants as seek
use Rattle.law_refine.specs.Below.fkv_commit.StartAnswer.{StartAnswer}
use Rattle.law_refine.specs.Below.fkv_commit.StartAnswer.TheVariants as start
use Rattle.law_refine.specs.Below.fkv_commit.WaitAnswer.{WaitAnswer}
use Rattle.law_refine.specs.Below.fkv_commit.WaitAnswer.TheVariants as wait
use Rattle.law_refine.specs.Below.fkv_commit.Commits.{commit_begun, is_log}
use Rattle.law_refine.specs.Below.fkv_commit.Entering.{enter_ask, enter_next}
use Rattle.law_refine.specs.Below.fkv_commit.Finishing.{finish_ask, finish_next}
use Rattle.law_refine.specs.Below.fkv_commit.Seeking.{seek_ask, seek_next}
use Rattle.law_refine.specs.Below.fkv_commit.Starting.{start_ask, start_next}
use Rattle.law_refine.specs.Below.fkv_commit.Waiting.{wait_ask, wait_next}
use Rattle.law_refine.specs.Below.fkv_manifest.WriteAnswer.{WriteAnswer}
use Rattle.law_refine.specs.Below.fkv_manifest.WriteAnswer.TheVariants as write
use Rattle.law_refine.specs.Below.fkv_manifest.Committing.{commit_answer, commit_next}
use Rattle.law_refine.specs.Below.fkv_maintain.MaintainAnswer.{MaintainAnswer}
use Rattle.law_refine.specs.Below.fkv_maintain.MaintainAnswer.TheVariants as maintain
use Rattle.law_refine.specs.Below.fkv_maintain.Maintaining.{is_flush_resting, maintain_ask, maintain_called, maintain_given, maintain_next}
use Rattle.law_refine.specs.Below.fkv_keeper.TheKeeping.{Keeping}
use Rattle.law_refine.specs.Below.fkv_keeper.TheKeeping.TheVariants.{Ended, Starts, Maintains, LoadsPhase, Enters, Copies, Seeks, Waits, Writes, Finishes, Sweeps}
use Rattle.law_refine.specs.Below.fkv_keeper.Keeping.{KeeperState, begin_next, commit_asked, copied, copies, copy_driven, copy_ledto, enter_ledto, finish_ledto, finished, keeping_called, keeping_given, keeping_next, maintain_ledto, must_rest, part_begun, phase_ledto, points_known, seek_ledto, start_ledto, turn_asked, wait_ledto, write_ledto, writes_begun, is_copy_resting, copy_told}
use Rattle.law_refine.specs.Below.fkv_keeper.KeeperRun.{KeeperEvent, BeginsTurn, BeginsCommit, Replies, Gets, Calls, begins, is_in_hand, keeper_happens}
use Rattle.law_commit.proofs.Sweeps.{sweep_begins, sweep_moves, sweep_reads}

-- a commit that was in hand before, as it was begun, and was copied then or is being copied
pub record WasInHand (s : KeeperState) (c : Commit) : Type 0 where
  pub commit : Commit
  pub in_hand : s.commit ≡ Some commit
  pub number : commit.number ≡ c.number
  pub kind : commit.kind ≡ c.kind
  pub first : commit.first ≡ c.first
  pub so : (commit.is_copied ≡ true) ⊎ (s.step ≡ Copies)

abbrev pub IsCopiedFrom : KeeperState → Option Commit → Type 0
IsCopiedFrom s found = (c : Commit) → found ≡ Some c → c.kind ≡ Full → c.is_copied ≡ true → WasInHand s c

pub some_same : {X : Type 0} (one other : X) → Some one ≡ Some other → one ≡ other
some_same one other both = cc

stays : (s : KeeperState) (found : Option Commit) → found ≡ s.commit → IsCopiedFrom s found
stays s found same c is full is_copied = record { commit = c; in_hand = sym same ∙ is; number = refl; kind = refl; first = refl; so = inl is_copied }

none_left : (s : KeeperState) → IsCopiedFrom s None
none_left s c is full is_copied = cc

not_log : (kind : CommitKind) → kind ≡ Full → is_log kind ≡ true → ⊥
not_log Full e log = cc
not_log Log e log = cc

-- ---- by what the machines inside come to
started : (s t : KeeperState) (ask : Ask StartAnswer) → t.commit ≡ s.commit → IsCopiedFrom s (start_ledto t ask).commit
unfolding start_ledto
started s t (Done (start.Begun number first)) same = λ c is full is_copied.
    let its : commit_begun number t.start.asked.kind (begin_next t first) first ≡ c = some_same (commit_begun number t.start.asked.kind (begin_next t first) first) c is in
    absurd (not_log t.start.asked.kind (ap (λ (x : Commit). x.kind) its ∙ full) (ap (λ (x : Commit). x.is_copied) its ∙ is_copied))
started s t (Done (start.Refused why)) same = stays s t.commit same
started s t (Done start.Idle) same = stays s t.commit same
started s t ask same = stays s t.commit same

maintained : (t : KeeperState) (ask : Ask MaintainAnswer) → (maintain_ledto t ask).commit ≡ t.commit
unfolding maintain_ledto
maintained t (Done maintain.Through) = refl
maintained t (Done maintain.Spent) = refl
maintained t (Done maintain.Broken) = refl
maintained t ask = refl

either : (b : Bool) (x y : KeeperState) (found : Option Commit) → x.commit ≡ found → y.commit ≡ found → (if b then x else y).commit ≡ found
either true x y found one other = one
either false x y found one other = other

copies_same : (p : Places) (s : KeeperState) (granted : Bool) → (copies p s granted).commit ≡ s.commit
copies_same p s granted = either (granted || is_copy_resting s.copy) _ _ s.commit refl refl

part_same : (p : Places) (s : KeeperState) (c : Commit) (said : PhaseSaid) (granted : Bool) → (part_begun p s c said granted).commit ≡ s.commit
part_same p s c (Says phase.InProgress version) granted = either s.has_entered _ _ s.commit (either c.is_copied _ _ s.commit refl (copies_same p s granted)) refl
part_same p s c (Says phase.WaitPending version) granted = either c.is_copied _ _ s.commit refl (copies_same p s granted)
part_same p s c (Says phase.WaitFlush version) granted = either s.has_points _ _ s.commit refl refl
part_same p s c said granted = refl

phase_same : (p : Places) (s : KeeperState) (found : Option Commit) (said : PhaseSaid) (granted : Bool) → (phase_ledto p s found said granted).commit ≡ s.commit
unfolding phase_ledto
phase_same p s None said granted = either (is_flush_resting s.maintain) _ _ s.commit refl (sweep_begins (λ (x : KeeperState). x.commit ≡ s.commit) s granted refl refl)
phase_same p s (Some c) said granted = either s.rests _ _ s.commit (either granted _ _ s.commit refl refl) (either (is_flush_resting s.maintain) _ _ s.commit refl (part_same p s c said granted))

entered_same : (t : KeeperState) (ask : Ask EnterAnswer) → (enter_ledto t ask).commit ≡ t.commit
unfolding enter_ledto
entered_same t (Done enter.Entered) = refl
entered_same t (Done enter.DrainFull) = refl
entered_same t (Done enter.EpochsSpent) = refl
entered_same t (Done enter.Idle) = refl
entered_same t ask = refl

copied_so : (s : KeeperState) (rests : Bool) (found : Option Commit) → s.step ≡ Copies → s.commit ≡ found → IsCopiedFrom s (copied rests found)
copied_so s rests None at same c is full is_copied = cc
copied_so s rests (Some it) at same c is full is_copied =
    let its : record it { is_copied = it.is_copied || not rests } ≡ c = some_same (record it { is_copied = it.is_copied || not rests }) c is in
    record { commit = it; in_hand = same; number = ap (λ (x : Commit). x.number) its; kind = ap (λ (x : Commit). x.kind) its; first = ap (λ (x : Commit). x.first) its; so = inr at }

copy_led : (s t : KeeperState) (ask : Ask (Unit {0})) → s.step ≡ Copies → t.commit ≡ s.commit → IsCopiedFrom s (copy_ledto t ask).commit
unfolding copy_ledto
copy_led s t (Done its) at same = copied_so s (is_copy_resting t.copy) t.commit at (sym same)
copy_led s t ask at same = stays s t.commit same

points_so : (s : KeeperState) (found : Option Commit) (end : Addr) (epoch : ℕ) → s.commit ≡ found → IsCopiedFrom s (points_known found end epoch)
points_so s None end epoch same c is full is_copied = cc
points_so s (Some it) end epoch same c is full is_copied =
    let its : record it { end = end; epoch = epoch } ≡ c = some_same (record it { end = end; epoch = epoch }) c is in
    record { commit = it; in_hand = same; number = ap (λ (x : Commit). x.number) its; kind = ap (λ (x : Commit). x.kind) its; first = ap (λ (x : Commit). x.first) its; so = inl (ap (λ (x : Commit). x.is_copied) its ∙ is_copied) }

sought : (s t : KeeperState) (ask : Ask SeekAnswer) → t.commit ≡ s.commit → IsCopiedFrom s (seek_ledto t ask).commit
unfolding seek_ledto
sought s t (Done (seek.Taken end epoch)) same = points_so s t.commit end epoch (sym same)
sought s t (Done seek.DrainFull) same = stays s t.commit same
sought s t (Done seek.EpochsSpent) same = stays s t.commit same
sought s t (Done seek.Owing) same = stays s t.commit same
sought s t (Done seek.Idle) same = stays s t.commit same
sought s t ask same = stays s t.commit same

begun_same : (shape : Shape) (t : KeeperState) (found : Option Commit) → (writes_begun shape t found).commit ≡ t.commit
begun_same shape t None = refl
begun_same shape t (Some c) = refl

waited_same : (shape : Shape) (t : KeeperState) (ask : Ask WaitAnswer) → (wait_ledto shape t ask).commit ≡ t.commit
unfolding wait_ledto
waited_same shape t (Done wait.Flushed) = begun_same shape t t.commit
waited_same shape t (Done wait.NotYet) = refl
waited_same shape t (Done wait.Idle) = refl
waited_same shape t ask = refl

finish_so : (s t : KeeperState) (found : Option Commit) → t.commit ≡ s.commit → IsCopiedFrom s (finished t found).commit
finish_so s t None same = stays s t.commit same
finish_so s t (Some c) same = none_left s

finishes : (s t : KeeperState) (ask : Ask FinishAnswer) → t.commit ≡ s.commit → IsCopiedFrom s (finish_ledto t ask).commit
unfolding finish_ledto
finishes s t (Done its) same = finish_so s t t.commit same
finishes s t ask same = stays s t.commit same

written_same : (t : KeeperState) (found : Option Commit) (answer : WriteAnswer) → (write_ledto t found answer).commit ≡ t.commit
unfolding write_ledto
written_same t None answer = refl
written_same t (Some c) write.Written = refl
written_same t (Some c) write.Device = either (must_rest t) _ _ t.commit refl refl
written_same t (Some c) (write.Broken why) = refl

-- ---- each event
replied : (shape : Shape) (p : Places) (s : KeeperState) (step : Keeping) (reply : ℕ) (granted : Bool) → s.step ≡ step → IsCopiedFrom s (keeping_next shape p s step reply granted).commit
unfolding keeping_next
replied shape p s (Ended its) reply granted at = stays s s.commit refl
replied shape p s Starts reply granted at = started s (record s { start = start_next s.start reply }) (start_ask (start_next s.start reply)) refl
replied shape p s Maintains reply granted at = stays s _ (maintained (record s { maintain = maintain_next shape p s.maintain reply }) (maintain_ask shape p (maintain_next shape p s.maintain reply)))
replied shape p s LoadsPhase reply granted at = stays s _ (phase_same p s s.commit (phase_said reply) granted)
replied shape p s Enters reply granted at = stays s _ (entered_same (record s { enter = enter_next s.enter reply }) (enter_ask (enter_next s.enter reply)))
replied shape p s Copies reply granted at = copy_led s (record s { copy = copy_driven s.copy reply }) (copy_told (copy_driven s.copy reply)) at refl
replied shape p s Seeks reply granted at = sought s (record s { seek = seek_next s.seek reply }) (seek_ask (seek_next s.seek reply)) refl
replied shape p s Waits reply granted at = stays s _ (waited_same shape (record s { wait = wait_next s.wait reply }) (wait_ask (wait_next s.wait reply)))
replied shape p s Writes reply granted at = stays s s.commit refl
replied shape p s Finishes reply granted at = finishes s (record s { finish = finish_next s.finish reply }) (finish_ask s.seek.points (finish_next s.finish reply)) refl
replied shape p s Sweeps reply granted at = sweep_moves (λ (x : KeeperState). IsCopiedFrom s x.commit) s reply (λ w. stays s s.commit refl) (λ w. stays s s.commit refl)

given_same : (shape : Shape) (p : Places) (s : KeeperState) (step : Keeping) (action : Action) → (keeping_given shape p s step action).commit ≡ s.commit
unfolding keeping_given
given_same shape p s Maintains action = maintained (record s { maintain = maintain_given s.maintain action }) (maintain_ask shape p (maintain_given s.maintain action))
given_same shape p s step action = refl

called_same : (shape : Shape) (p : Places) (s : KeeperState) (step : Keeping) (done : Bool) (bytes : List ℕ) → (keeping_called shape p s step done bytes).commit ≡ s.commit
unfolding keeping_called
called_same shape p s Maintains done bytes = maintained (record s { maintain = maintain_called shape p s.maintain done bytes }) (maintain_ask shape p (maintain_called shape p s.maintain done bytes))
called_same shape p s Writes true bytes = written_same (record s { writes = commit_next s.writes true }) s.commit (commit_answer (commit_next s.writes true))
called_same shape p s Writes false bytes = refl
called_same shape p s Sweeps done bytes = sweep_reads (λ (x : KeeperState). x.commit ≡ s.commit) s done bytes (λ w. refl) (λ w. refl) (λ w. refl)
called_same shape p s step done bytes = refl

begins_same : (s begun : KeeperState) (busy : Bool) → begun.commit ≡ s.commit → (begins s busy begun).commit ≡ s.commit
begins_same s begun true same = refl
begins_same s begun false same = same

pub event_copied : (shape : Shape) (p : Places) (s : KeeperState) (event : KeeperEvent) → IsCopiedFrom s (keeper_happens shape p s event).commit
unfolding keeper_happens
event_copied shape p s BeginsTurn = stays s _ (begins_same s (turn_asked s) (is_in_hand s.step) (either s.is_broken _ _ s.commit refl refl))
event_copied shape p s (BeginsCommit kind) = stays s _ (begins_same s (commit_asked s kind) (is_in_hand s.step) (either s.is_broken _ _ s.commit refl (either s.rests _ _ s.commit refl refl)))
event_copied shape p s (Replies reply granted) = replied shape p s s.step reply granted refl
event_copied shape p s (Gets action) = stays s _ (given_same shape p s s.step action)
event_copied shape p s (Calls done bytes) = stays s _ (called_same shape p s s.step done bytes)

-- ---- while it is copied
copying_same : (t : KeeperState) (ask : Ask (Unit {0})) → (copy_ledto t ask).step ≡ Copies → (copy_ledto t ask).commit ≡ t.commit
unfolding copy_ledto
copying_same t (Done its) at = cc
copying_same t ask at = refl

driven_same : (shape : Shape) (p : Places) (s : KeeperState) (reply : ℕ) (granted : Bool) → (keeping_next shape p s Copies reply granted).step ≡ Copies → (keeping_next shape p s Copies reply granted).commit ≡ s.commit
unfolding keeping_next
driven_same shape p s reply granted at = copying_same (record s { copy = copy_driven s.copy reply }) (copy_told (copy_driven s.copy reply)) at

pub still_same : (shape : Shape) (p : Places) (s : KeeperState) (event : KeeperEvent) → s.step ≡ Copies → (keeper_happens shape p s event).step ≡ Copies → (keeper_happens shape p s event).commit ≡ s.commit
unfolding keeper_happens
still_same shape p s BeginsTurn was at = begins_same s (turn_asked s) (is_in_hand s.step) (either s.is_broken _ _ s.commit refl refl)
still_same shape p s (BeginsCommit kind) was at = begins_same s (commit_asked s kind) (is_in_hand s.step) (either s.is_broken _ _ s.commit refl (either s.rests _ _ s.commit refl refl))
still_same shape p s (Replies reply granted) was at =
    ap (λ (step : Keeping). (keeping_next shape p s step reply granted).commit) was
    ∙ driven_same shape p s reply granted (subst (λ (step : Keeping). (keeping_next shape p s step reply granted).step ≡ Copies) was at)
still_same shape p s (Gets action) was at = given_same shape p s s.step action
still_same shape p s (Calls done bytes) was at = called_same shape p s s.step done bytes

-- ---- where its copy begins
loaded_same : (shape : Shape) (p : Places) (s : KeeperState) (reply : ℕ) (granted : Bool) → (keeping_next shape p s LoadsPhase reply granted).commit ≡ s.commit
unfolding keeping_next
loaded_same shape p s reply granted = phase_same p s s.commit (phase_said reply) granted

pub begun_commit : (shape : Shape) (p : Places) (s : KeeperState) (event : KeeperEvent) (reply : ℕ) (granted : Bool) → s.step ≡ LoadsPhase → event ≡ Replies reply granted → (keeper_happens shape p s event).commit ≡ s.commit
unfolding keeper_happens
begun_commit shape p s event reply granted at is =
    ap (λ (x : KeeperEvent). (keeper_happens shape p s x).commit) is ∙ (ap (λ (step : Keeping). (keeping_next shape p s step reply granted).commit) at ∙ loaded_same shape p s reply granted)
