-- Which commits have begun, and what is written of the one in hand, at each moment of a run.
use Rattle.std.proofs.Common.{◌≡◌, ◌⊎◌, inl, inr, ℕ, ◌+◌, ◌*◌, ◌≤◌, ◌∙◌, arith, refl, sym, ap, subst, Bool, true, false, List, [], ◌∷◌, ◌++◌, length}
use Rattle.std.specs.Prelude.{◌==◌, ◌&&◌, ◌||◌, drop, Option, Some, None}
use Rattle.std.proofs.lemmas.Bool.Decides.{nat_tests}
use Rattle.fkv_base.specs.declared.commits.CommitKind.{CommitKind}
use Rattle.fkv_base.specs.declared.commits.CommitKind.TheVariants.{Full, Log}
use Rattle.fkv_base.specs.declared.shapes.Shape.{Shape}
use Rattle.law_commit.specs.Below.fkv_commit.Commit.{Commit}
use Rattle.fkv_disk.specs.Calls.{Call, Write}
use Rattle.law_commit.specs.Below.fkv_keeper.Keeping.{Finality, KeeperState}
use Rattle.law_commit.specs.Below.fkv_keeper.KeeperRun.{Writing}
use Rattle.law_commit.specs.Below.fkv_keeper.LastCommits.{area_number, slot_place}
use Rattle.law_commit.specs.Below.fkv_manifest.Committing.{CommitWriter, commit_call, commit_next, commit_step_call, gate_after}
use Rattle.law_commit.specs.Below.fkv_manifest.Gating.{GateWriter, closed_gate, gate_next, gate_start, gate_step_call, open_gate}
use Rattle.law_commit.specs.Below.fkv_manifest.Kept.{AreTheSlots, Begins}
use Rattle.law_commit.specs.Below.fkv_manifest.Made.{commit_made, commit_run, has_begun, opens_gate, with_call}
use Rattle.law_commit.specs.Below.fkv_manifest.Newest.{slot_in}
use Rattle.law_commit.specs.Below.fkv_manifest.TheCommitting.{Committing}
use Rattle.law_commit.specs.Below.fkv_manifest.TheCommitting.TheVariants as committing
use Rattle.law_commit.specs.Below.fkv_manifest.TheGating.{Gating}
use Rattle.law_commit.specs.Below.fkv_manifest.TheGating.TheVariants as gate
use Rattle.fkv_record.specs.Places.{area_place}
use Rattle.law_commit.specs.BegunCommits.{BegunCommit, begun_at_gate, begun_at_writes, commit_opening, with_opening, with_sealed}
use Rattle.law_commit.specs.HeldCommits.{IsAsLast}
use Rattle.law_order.specs.Images.Named.{AreTriplesOf, slot_of}
use Rattle.law_log.specs.Trace.{IsIn}
use Rattle.law_commit.specs.Below.law_world.Standing.Standing.{Standing}

-- ---- the writes of a commit
-- a commit, sealed and finished or not
abbrev pub plain : BegunCommit → BegunCommit
plain c = record c { is_sealed = false; is_finished = false }

-- a full commit uses its own checkpoint, and a log commit the last one's
pub record UsesOwn (c : BegunCommit) : Type 0 where
  pub number : c.parts.checkpoint.number ≡ c.number
  pub first : c.parts.checkpoint.first ≡ c.parts.first
  pub whole : length c.parts.triples ≡ 16 * c.parts.checkpoint.triples

abbrev pub Uses : CommitKind → Finality → BegunCommit → Type 0
Uses Full last c = UsesOwn c
Uses Log last c = c.parts.checkpoint ≡ last.checkpoint

pub record AreWritesOf (shape : Shape) (last : Finality) (w : CommitWriter) (c : BegunCommit) : Type 0 where
  pub place : w.gate.place ≡ slot_place c.number
  pub slot : w.gate.slot ≡ slot_of shape c
  pub area : w.area ≡ area_place shape (area_number c.parts.checkpoint.area)
  pub triples : w.triples ≡ c.parts.triples
  pub uses : Uses c.parts.kind last c

-- they are under way since these calls
pub record IsUnderWay (opened : List ℕ) (last : Finality) (w : Writing) (calls : List Call) : Type 0 where
  pub before : List Call
  pub begins : Begins w.first opened before (slot_place last.number)
  pub made : calls ≡ commit_made w.first w.answers ++ before

-- the write that opens the gate was called
abbrev pub is_opened : Gating → Bool
is_opened gate.SyncsOpen = true
is_opened gate.Written = true
is_opened step = false

abbrev pub is_called : Writing → Bool
is_called w = has_begun w.first.gate.place (commit_made w.first w.answers)

-- since then the commit is the newest that has begun
pub record HasBegunFor (begun rest : List BegunCommit) (c : BegunCommit) : Type 0 where
  pub newest : BegunCommit
  pub its : begun ≡ newest ∷ rest
  pub same : plain newest ≡ c
  pub unfinished : newest.is_finished ≡ false

abbrev pub Lists : Bool → List BegunCommit → List BegunCommit → BegunCommit → Type 0
Lists false begun rest c = begun ≡ rest
Lists true begun rest c = HasBegunFor begun rest c

-- ---- what a call adds
or_false : (a b : Bool) → a ≡ false → b ≡ false → (a || b) ≡ false
or_false false b none other = other
or_false true b none other = cc

or_other : (a b c : Bool) → a ≡ false → b ≡ c → (a || b) ≡ c
or_other false b c none other = other
or_other true b c none other = cc

or_true : (a b : Bool) → a ≡ true → (a || b) ≡ true
or_true true b is = refl
or_true false b is = cc

and_false : (a : Bool) → (a && false) ≡ false
and_false true = refl
and_false false = refl

and_true : (a : Bool) → a ≡ true → (a && true) ≡ true
and_true true is = refl
and_true false is = cc

none_and : (a b : Bool) → a ≡ false → (a && b) ≡ false
none_and false b none = refl
none_and true b none = cc

elsewhere : (place at : ℕ) (bytes : List ℕ) (done : Bool) → (at == place) ≡ false → opens_gate place (Write at bytes done) ≡ false
elsewhere place at bytes done other = none_and (at == place) _ other

gate_calls : (place start : ℕ) (slot : List ℕ) (g : Gating) (done : Bool) (calls : List Call) → start ≡ 1 → has_begun place calls ≡ is_opened g
    → has_begun place (with_call (gate_step_call place start slot g done) calls) ≡ is_opened (gate_next g true)
unfolding gate_step_call gate_next
gate_calls place start slot gate.Closes done calls one was = or_false (opens_gate place (Write place (closed_gate ∷ []) done)) (has_begun place calls) (and_false (place == place)) was
gate_calls place start slot gate.SyncsClosed done calls one was = was
gate_calls place start slot gate.WritesBody done calls one was =
    or_false (opens_gate place (Write (place + start) (drop start slot) done)) (has_begun place calls) (elsewhere place (place + start) (drop start slot) done (grind (arith, nat_tests, one))) was
gate_calls place start slot gate.SyncsBody done calls one was = was
gate_calls place start slot gate.Opens done calls one was =
    or_true (opens_gate place (Write place (open_gate ∷ []) done)) (has_begun place calls) (and_true (place == place) (let own : (place == place) ≡ true = grind (arith, nat_tests) in own))
gate_calls place start slot gate.SyncsOpen done calls one was = was
gate_calls place start slot gate.Written done calls one was = was
gate_calls place start slot (gate.Broken why) done calls one was = was

apart_low : (place area : ℕ) → place ≤ 1024 → 1536 ≤ area → (area == place) ≡ false
apart_low place area low high = grind (arith, nat_tests, low, high)

writes_call : (area : ℕ) (triples : List ℕ) (its : GateWriter) (step : Committing) (done : Bool) (calls : List Call) → its.place ≤ 1024 → 1536 ≤ area → its.start ≡ 1 → has_begun its.place calls ≡ is_opened its.step
    → has_begun its.place (with_call (commit_step_call area triples its step done) calls) ≡ is_opened (gate_after its step true).step
unfolding commit_step_call gate_after
writes_call area triples its committing.WritesTriples done calls low high one was =
    or_other (opens_gate its.place (Write area triples done)) (has_begun its.place calls) (is_opened its.step) (elsewhere its.place area triples done (apart_low its.place area low high)) was
writes_call area triples its committing.SyncsTriples done calls low high one was = was
writes_call area triples its committing.PutsSlot done calls low high one was = gate_calls its.place its.start its.slot its.step done calls one was
writes_call area triples its (committing.Broken why) done calls low high one was = was

-- ---- and what begins by it
opening_lists : (s : KeeperState) (found : Option Commit) (c : Commit) (begun rest : List BegunCommit) → found ≡ Some c → begun ≡ rest → HasBegunFor (with_opening s found begun) rest (commit_opening s c)
opening_lists s None c begun rest found list = cc
opening_lists s (Some d) c begun rest found list =
    let same : d ≡ c = (let both : Some d ≡ Some c = found in cc) in
    record { newest = commit_opening s d; its = ap (λ (x : List BegunCommit). commit_opening s d ∷ x) list; same = ap (λ (x : Commit). commit_opening s x) same; unfinished = refl }

sealed_lists : (begun rest : List BegunCommit) (c : BegunCommit) → HasBegunFor begun rest c → HasBegunFor (with_sealed begun) rest c
sealed_lists begun rest c is = record { newest = (let n = is.newest in record n { is_sealed = true }); its = ap (λ (x : List BegunCommit). with_sealed x) is.its; same = is.same; unfinished = is.unfinished }

gate_lists : (s : KeeperState) (c : Commit) (g : Gating) (done : Bool) (begun rest : List BegunCommit) → s.commit ≡ Some c → Lists (is_opened g) begun rest (commit_opening s c)
    → Lists (is_opened (gate_next g true)) (begun_at_gate s g done begun) rest (commit_opening s c)
unfolding gate_next
gate_lists s c gate.Closes done begun rest found its = its
gate_lists s c gate.SyncsClosed done begun rest found its = its
gate_lists s c gate.WritesBody done begun rest found its = its
gate_lists s c gate.SyncsBody done begun rest found its = its
gate_lists s c gate.Opens done begun rest found its = opening_lists s s.commit c begun rest found its
gate_lists s c gate.SyncsOpen true begun rest found its = sealed_lists begun rest (commit_opening s c) its
gate_lists s c gate.SyncsOpen false begun rest found its = its
gate_lists s c gate.Written done begun rest found its = its
gate_lists s c (gate.Broken why) done begun rest found its = its

writes_list : (s : KeeperState) (c : Commit) (step : Committing) (done : Bool) (begun rest : List BegunCommit) → s.commit ≡ Some c → Lists (is_opened s.writes.gate.step) begun rest (commit_opening s c)
    → Lists (is_opened (gate_after s.writes.gate step true).step) (begun_at_writes s step done begun) rest (commit_opening s c)
unfolding gate_after
writes_list s c committing.WritesTriples done begun rest found its = its
writes_list s c committing.SyncsTriples done begun rest found its = its
writes_list s c committing.PutsSlot done begun rest found its = gate_lists s c s.writes.gate.step done begun rest found its
writes_list s c (committing.Broken why) done begun rest found its = its

kept_place : (its : GateWriter) (step : Committing) (done : Bool) → (gate_after its step done).place ≡ its.place
unfolding gate_after
kept_place its committing.PutsSlot done = refl
kept_place its committing.WritesTriples done = refl
kept_place its committing.SyncsTriples done = refl
kept_place its (committing.Broken why) done = refl

kept_start : (its : GateWriter) (step : Committing) (done : Bool) → (gate_after its step done).start ≡ its.start
unfolding gate_after
kept_start its committing.PutsSlot done = refl
kept_start its committing.WritesTriples done = refl
kept_start its committing.SyncsTriples done = refl
kept_start its (committing.Broken why) done = refl

-- a call follows those that were made
pub appended : (call : Option Call) (calls before : List Call) → with_call call [] ++ (calls ++ before) ≡ with_call call calls ++ before
appended None calls before = refl
appended (Some its) calls before = refl

pub fresh : (is_open : Bool) → false ≡ is_opened (gate_start is_open)
fresh true = refl
fresh false = refl

pub low_slot : (place other : ℕ) → AreTheSlots place other → place ≤ 1024
low_slot place other (inl first) = let at = first.0 in omega (arith, at)
low_slot place other (inr second) = let at = second.0 in omega (arith, at)

-- ---- at each moment
module _ (shape : Shape) (opened : List ℕ) (first : BegunCommit) (Good : BegunCommit → Type 0) where
  -- the bytes of a commit's slot, and what is known of the commit if this life has written them
  abbrev pub HasSlot : BegunCommit → List ℕ → Type 0
  HasSlot c bytes = ((bytes ≡ slot_of shape c) × Good (plain c)) ⊎ ((c ≡ first) × (bytes ≡ slot_in opened (slot_place first.number)))

  -- the newest that is finished
  pub record IsLast (last : Finality) (its : Standing) (begun : List BegunCommit) : Type 0 where
    pub newest : BegunCommit
    pub older : List BegunCommit
    pub list : begun ≡ newest ∷ older
    pub finished : newest.is_finished ≡ true
    pub as_last : IsAsLast last newest
    pub slot : HasSlot newest its.slot
    pub triples : AreTriplesOf shape opened first begun last.checkpoint its.triples
    pub each : (d : BegunCommit) → IsIn d begun → Good (plain d) ⊎ (d ≡ first)

  -- one is written behind it, or its writes have failed
  pub record IsLeft (last : Finality) (its : Standing) (w : Writing) (calls : List Call) (begun : List BegunCommit) : Type 0 where
    pub commit : BegunCommit
    pub good : Good commit
    pub unfinished : (let c = commit in c.is_finished ≡ false)
    pub way : IsUnderWay opened last w calls
    pub writes : AreWritesOf shape last w.first commit
    pub rest : List BegunCommit
    pub before : IsLast last its rest
    pub list : Lists (is_called w) begun rest commit

  pub record IsWriting (s : KeeperState) (its : Standing) (w : Writing) (calls : List Call) (begun : List BegunCommit) : Type 0 where
    pub left : IsLeft s.last its w calls begun
    pub in_hand : Commit
    pub found : s.commit ≡ Some in_hand
    pub named : (let l = left in l.commit ≡ commit_opening s in_hand)
    pub run : s.writes ≡ commit_run w.first w.answers
    pub called : is_called w ≡ is_opened s.writes.gate.step
    pub place : s.writes.gate.place ≡ w.first.gate.place
    pub start : s.writes.gate.start ≡ w.first.gate.start
    pub area : s.writes.area ≡ w.first.area

  pub record IsWritten (s : KeeperState) (its : Standing) (w : Writing) (calls : List Call) (begun : List BegunCommit) : Type 0 where
    pub left : IsLeft s.last its w calls begun
    pub in_hand : Commit
    pub found : s.commit ≡ Some in_hand
    pub named : (let l = left in l.commit ≡ commit_opening s in_hand)
    pub called : is_called w ≡ true

  -- its writes begin
  pub record BeginsSo (a : KeeperState) (calls : List Call) : Type 0 where
    pub begins : Begins a.writes opened calls (slot_place a.last.number)
    pub good : (c : Commit) → a.commit ≡ Some c → Good (commit_opening a c)

  -- ---- a call of the writes
  module _ (s : KeeperState) (its : Standing) (w : Writing) (calls : List Call) (begun : List BegunCommit) (is : IsWriting s its w calls begun) (done : Bool) where
    abbrev pub answered : Writing
    answered = record w { answers = done ∷ w.answers }

    abbrev made : List Call
    made = commit_made w.first w.answers

    ready_place : w.first.gate.place ≤ 1024
    ready_place = let l = is.left in low_slot w.first.gate.place (slot_place s.last.number) l.way.begins.ready.slots

    called_own : has_begun s.writes.gate.place (with_call (commit_call s.writes done) made) ≡ is_opened (gate_after s.writes.gate s.writes.step true).step
    called_own =
        let l = is.left in
        let place = is.place in
        let area = is.area in
        let low = ready_place in
        let high = l.way.begins.ready.behind in
        let one = l.way.begins.ready.body in
        writes_call s.writes.area s.writes.triples s.writes.gate s.writes.step done made (omega (arith, place, low)) (omega (arith, area, high)) (is.start ∙ one)
        (subst (λ (at : ℕ). has_begun at made ≡ is_opened s.writes.gate.step) (sym is.place) is.called)

    pub called_after : is_called answered ≡ is_opened (gate_after s.writes.gate s.writes.step true).step
    unfolding commit_made
    called_after =
        subst (λ (v : CommitWriter). has_begun w.first.gate.place (with_call (commit_call v done) made) ≡ is_opened (gate_after s.writes.gate s.writes.step true).step) is.run
        (subst (λ (at : ℕ). has_begun at (with_call (commit_call s.writes done) made) ≡ is_opened (gate_after s.writes.gate s.writes.step true).step) is.place called_own)

    list_after : Lists (is_called answered) (begun_at_writes s s.writes.step done begun) (let l = is.left in l.rest) (let l = is.left in l.commit)
    list_after =
        let l = is.left in
        let was : Lists (is_opened s.writes.gate.step) begun l.rest (commit_opening s is.in_hand) =
        subst (λ (b : Bool). Lists b begun l.rest (commit_opening s is.in_hand)) is.called (subst (λ (c : BegunCommit). Lists (is_called w) begun l.rest c) is.named l.list) in
        subst (λ (b : Bool). Lists b (begun_at_writes s s.writes.step done begun) l.rest l.commit) (sym called_after)
        (subst (λ (c : BegunCommit). Lists (is_opened (gate_after s.writes.gate s.writes.step true).step) (begun_at_writes s s.writes.step done begun) l.rest c) (sym is.named)
        (writes_list s is.in_hand s.writes.step done begun l.rest is.found was))

    pub left_after : IsLeft s.last its answered (with_call (commit_call s.writes done) [] ++ calls) (begun_at_writes s s.writes.step done begun)
    unfolding commit_made
    left_after =
        let l = is.left in
        record {
          commit = l.commit;
          good = l.good;
          unfinished = l.unfinished;
          way = record {
            before = l.way.before;
            begins = l.way.begins;
            made =
                ap (λ (m : List Call). with_call (commit_call s.writes done) [] ++ m) l.way.made
                ∙ (appended (commit_call s.writes done) made l.way.before
                ∙ ap (λ (v : CommitWriter). with_call (commit_call v done) made ++ l.way.before) is.run);
          };
          writes = l.writes;
          rest = l.rest;
          before = l.before;
          list = list_after;
        }

  -- and it goes on if the call has succeeded
  pub writes_on : (s : KeeperState) (its : Standing) (w : Writing) (calls : List Call) (begun : List BegunCommit) → IsWriting s its w calls begun
      → IsWriting (record s { writes = commit_next s.writes true }) its (record w { answers = true ∷ w.answers }) (with_call (commit_call s.writes true) [] ++ calls) (begun_at_writes s s.writes.step true begun)
  unfolding commit_run left_after
  writes_on s its w calls begun is = record {
    left = left_after s its w calls begun is true;
    in_hand = is.in_hand;
    found = is.found;
    named = is.named;
    run = ap (λ (v : CommitWriter). commit_next v true) is.run;
    called = called_after s its w calls begun is true;
    place = kept_place s.writes.gate s.writes.step true ∙ is.place;
    start = kept_start s.writes.gate s.writes.step true ∙ is.start;
    area = is.area;
  }
