-- The numbers of the commits that have begun come one behind the other, where each commit that begins has the number behind the newest finished one's.
use Rattle.std.proofs.Common.{◌≡◌, ◌⊎◌, inl, inr, ◌+◌, ◌∙◌, List, [], ◌∷◌, refl, ap, sym, subst, Bool, true, false}
use Rattle.std.specs.Prelude.{Option, Some, None}
use Rattle.fkv_base.specs.declared.numbers.Version.{Version}
use Rattle.fkv_base.specs.declared.shapes.Shape.{Shape}
use Rattle.fkv_plane.specs.declared.places.Places.{Places}
use Rattle.law_refine.specs.Below.fkv_commit.Commit.{Commit}
use Rattle.law_refine.specs.Below.fkv_manifest.TheCommitting.{Committing}
use Rattle.law_refine.specs.Below.fkv_manifest.TheCommitting.TheVariants as committing
use Rattle.law_refine.specs.Below.fkv_manifest.TheGating.{Gating}
use Rattle.law_refine.specs.Below.fkv_manifest.TheGating.TheVariants as gate
use Rattle.law_refine.specs.Below.fkv_keeper.KeeperTold.TheVariants.{Turned, Begun}
use Rattle.law_refine.specs.Below.fkv_keeper.TheKeeping.{Keeping}
use Rattle.law_refine.specs.Below.fkv_keeper.TheKeeping.TheVariants.{Ended, Starts, Maintains, LoadsPhase, Enters, Copies, Seeks, Waits, Writes, Finishes, Sweeps}
use Rattle.law_refine.specs.Below.fkv_keeper.CheckpointLaws.{GoesOn, IsBegun, IsCommitAfter, IsFinished}
use Rattle.law_refine.specs.Below.fkv_keeper.Keeping.{KeeperState}
use Rattle.law_refine.specs.Below.fkv_keeper.KeeperLaws.{MayRest}
use Rattle.law_refine.specs.Below.fkv_keeper.KeeperRun.{KeeperEvent, BeginsTurn, BeginsCommit, Replies, Gets, Calls, IsOpened, keeper_happens, keeper_run}
use Rattle.law_refine.proofs.Below.fkv_keeper.Shown.{each_move}
use Rattle.law_refine.specs.Below.law_world.Standing.Opening.{AreNumbersInTurn, IsNumberInTurn}
use Rattle.law_commit.specs.BegunCommits.{BegunCommit, AreInTurn, ComesNext, begun_at_end, begun_at_gate, begun_at_writes, begun_by, commit_opening, commits_begun, with_finished, with_sealed}
use Rattle.law_commit.specs.HeldCommits.{HaveFinished}
use Rattle.law_commit.proofs.BegunStands.{AtGate, AtWrites, Stands, StandsAt, run_stands}
use Rattle.law_commit.proofs.InRest.{come_awake, rest_begun, rests_there}

-- the commit in hand has the next number
abbrev pub NextInHand : KeeperState → Type 0
NextInHand s = (c : Commit) → s.commit ≡ Some c → c.number.0 ≡ s.last.number.0 + 1

pub some_commit : (found : Option Commit) (c d : Commit) → found ≡ Some c → found ≡ Some d → c ≡ d
some_commit found c d one other = let both : Some c ≡ Some d = sym one ∙ other in cc

pub not_none : (found : Option Commit) (c : Commit) → found ≡ None → found ≡ Some c → ⊥
not_none found c none some = let both : None ≡ Some c = sym none ∙ some in cc

abbrev Lists : KeeperState → KeeperState → Type 0
Lists s a = ((a.last ≡ s.last) × (a.lost ≡ s.lost)) ⊎ ((c : Commit) × (s.commit ≡ Some c) × IsFinished s a c)

starts_last : (s a : KeeperState) → s.step ≡ Starts → Lists s a → a.last ≡ s.last
starts_last s a e (inl same) = same.0
starts_last s a e (inr other) = let both : Starts ≡ Finishes = sym e ∙ other.2.finishes in absurd (apart both)
  where
    apart : Starts ≡ Finishes → ⊥
    apart both = cc

has_last : (s a : KeeperState) (c : Commit) → a.commit ≡ Some c → Lists s a → a.last ≡ s.last
has_last s a c e (inl same) = same.0
has_last s a c e (inr other) = absurd (not_none a.commit c other.2.none_in_hand e)

begun_next : (s a : KeeperState) → IsBegun s a → IsNumberInTurn s.last.number s.step a.step → Lists s a → NextInHand a
begun_next s a its turn lists c e =
    let turned : IsNumberInTurn s.last.number Starts (Ended (Begun its.commit.number)) =
    subst (λ (x : Keeping). IsNumberInTurn s.last.number x (Ended (Begun its.commit.number))) its.starts (subst (λ (x : Keeping). IsNumberInTurn s.last.number s.step x) its.told turn) in
    rw (starts_last s a its.starts lists) (rw (some_commit a.commit c its.commit e its.in_hand) turned.0)

goes_next : (s a : KeeperState) (b : Commit) → NextInHand s → s.commit ≡ Some b → GoesOn b a.commit → Lists s a → NextInHand a
goes_next s a b next was its lists c e =
    rw (has_last s a c e lists) (rw (some_commit a.commit c its.commit e its.in_hand) (ap (λ (x : Version). x.0) its.number ∙ next b was))

next_after : (s a : KeeperState) (found : Option Commit) → s.commit ≡ found → NextInHand s → IsNumberInTurn s.last.number s.step a.step → IsCommitAfter found s a → Lists s a → NextInHand a
next_after s a None was next turn (inl none) lists = λ c e. absurd (not_none a.commit c none e)
next_after s a None was next turn (inr begun) lists = begun_next s a begun turn lists
next_after s a (Some b) was next turn (inl goes) lists = goes_next s a b next was goes lists
next_after s a (Some b) was next turn (inr (inl over)) lists = λ c e. absurd (not_none a.commit c over.none_in_hand e)
next_after s a (Some b) was next turn (inr (inr begun)) lists = begun_next s a begun turn lists

event_next : (shape : Shape) (p : Places) (s : KeeperState) (event : KeeperEvent) → NextInHand s → IsNumberInTurn s.last.number s.step (keeper_happens shape p s event).step → NextInHand (keeper_happens shape p s event)
event_next shape p s event next turn =
    let move = each_move shape p s event in
    next_after s (keeper_happens shape p s event) s.commit refl next turn move.copies.commit move.lists.lists

pub run_next : (shape : Shape) (p : Places) (opening : KeeperState) (events : List KeeperEvent) → IsOpened opening → AreNumbersInTurn shape p opening events → NextInHand (keeper_run shape p opening events)
unfolding keeper_run AreNumbersInTurn
run_next shape p opening [] opened turn = λ c e. absurd (not_none opening.commit c opened.no_commit e)
run_next shape p opening (event ∷ before) opened turn = event_next shape p (keeper_run shape p opening before) event (run_next shape p opening before opened turn.1) turn.0

-- what becomes of the list
sealed_turn : (begun : List BegunCommit) → AreInTurn begun → AreInTurn (with_sealed begun)
sealed_turn [] its = its
sealed_turn (c ∷ []) its = its
sealed_turn (c ∷ earlier ∷ before) its = its

finished_turn : (begun : List BegunCommit) → AreInTurn begun → AreInTurn (with_finished begun)
finished_turn [] its = its
finished_turn (c ∷ []) its = its
finished_turn (c ∷ earlier ∷ before) its = its

end_turn : (after : Keeping) (begun : List BegunCommit) → AreInTurn begun → AreInTurn (begun_at_end after begun)
end_turn (Ended (Turned true full)) begun its = finished_turn begun its
end_turn after begun its = its

opened_turn : (s : KeeperState) (begun : List BegunCommit) (c : Commit) → NextInHand s → s.commit ≡ Some c → HaveFinished begun s.last → AreInTurn begun → AreInTurn (commit_opening s c ∷ begun)
opened_turn s begun c next found all its =
    let comes : ComesNext (commit_opening s c) (all.newest ∷ all.older) = next c found ∙ ap (λ (x : Version). x.0 + 1) (sym all.last.number) in
    (subst (λ (x : List BegunCommit). ComesNext (commit_opening s c) x) (sym all.its) comes, its)

opening_turn : (s : KeeperState) (begun : List BegunCommit) (found : Option Commit) (done : Bool) → NextInHand s → s.commit ≡ found → HaveFinished begun s.last → AreInTurn begun → AreInTurn (begun_at_gate s gate.Opens done begun)
opening_turn s begun None done next none all its = rw none its
opening_turn s begun (Some c) done next found all its = rw found (opened_turn s begun c next found all its)

gate_turn : (s : KeeperState) (begun : List BegunCommit) (step : Gating) (done : Bool) → NextInHand s → AtGate begun s step → AreInTurn begun → AreInTurn (begun_at_gate s step done begun)
gate_turn s begun gate.Opens done next at its = opening_turn s begun s.commit done next refl at its
gate_turn s begun gate.SyncsOpen true next at its = sealed_turn begun its
gate_turn s begun gate.SyncsOpen false next at its = its
gate_turn s begun step done next at its = its

writes_turn : (s : KeeperState) (begun : List BegunCommit) (step : Committing) (done : Bool) → NextInHand s → AtWrites begun s step → AreInTurn begun → AreInTurn (begun_at_writes s step done begun)
writes_turn s begun committing.PutsSlot done next at its = gate_turn s begun s.writes.gate.step done next at its
writes_turn s begun step done next at its = its

event_turn : (s : KeeperState) (begun : List BegunCommit) (step : Keeping) (event : KeeperEvent) (after : Keeping) → NextInHand s → StandsAt begun s step → AreInTurn begun → AreInTurn (begun_by s step event after begun)
event_turn s begun Writes (Calls done bytes) after next at its = writes_turn s begun s.writes.step done next at its
event_turn s begun Writes BeginsTurn after next at its = its
event_turn s begun Writes (BeginsCommit kind) after next at its = its
event_turn s begun Writes (Replies reply granted) after next at its = its
event_turn s begun Writes (Gets action) after next at its = its
event_turn s begun Finishes event after next at its = end_turn after begun its
event_turn s begun (Ended told) event after next at its = its
event_turn s begun Starts event after next at its = its
event_turn s begun Maintains event after next at its = its
event_turn s begun LoadsPhase event after next at its = its
event_turn s begun Enters event after next at its = its
event_turn s begun Copies event after next at its = its
event_turn s begun Sweeps event after next at its = its
event_turn s begun Seeks event after next at its = its
event_turn s begun Waits event after next at its = its

-- where writes rest it stays as it is
come_turn : (s : KeeperState) (begun : List BegunCommit) (event : KeeperEvent) (after : Keeping) → (s.rests ≡ true → MayRest s.step) → NextInHand s → Stands begun s → AreInTurn begun → AreInTurn (begun_by s s.step event after begun)
come_turn s begun event after may next at its = by s.rests refl
  where
    by : (b : Bool) → s.rests ≡ b → AreInTurn (begun_by s s.step event after begun)
    by true rests = subst (λ (x : List BegunCommit). AreInTurn x) (sym (rest_begun s s.step event after begun (may rests))) its
    by false awake = event_turn s begun s.step event after next (subst (λ (x : Keeping). StandsAt begun s x) (come_awake s s.step awake refl) at) its

pub run_turn : (shape : Shape) (p : Places) (opening : KeeperState) (first : List BegunCommit) (events : List KeeperEvent) → IsOpened opening → HaveFinished first opening.last → AreInTurn first → AreNumbersInTurn shape p opening events
    → AreInTurn (commits_begun shape p opening first events)
unfolding commits_begun AreNumbersInTurn
run_turn shape p opening first [] opened all its turn = its
run_turn shape p opening first (event ∷ before) opened all its turn =
    come_turn (keeper_run shape p opening before) (commits_begun shape p opening first before) event (keeper_run shape p opening (event ∷ before)).step (rests_there shape p opening before opened) (run_next shape p opening before opened turn.1)
    (run_stands shape p opening first before opened all) (run_turn shape p opening first before opened all its turn.1)
