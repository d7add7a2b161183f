-- The calls that a device in memory keeps, one by one.
use Rattle.std.proofs.Common.{◌≡◌, ℕ, ◌+◌, ◌-◌, ◌<◌, ◌≤◌, List, [], ◌∷◌, ◌++◌, length, get_or, take, drop, true, refl, sym, ◌∙◌, ap, arith, length-append}
use Rattle.std.proofs.lemmas.List.{take_more, drop_more, take_all, drop_all, append_assoc, append-nil, length-drop}
use Rattle.fkv_disk.specs.Calls.{Call, Write, Sync, reads_as}
use Rattle.fkv_disk.specs.Done.{call_of, calls_of}
use Rattle.fkv_disk.specs.Forgotten.{since_sync, synced_bytes}
use Rattle.fkv_disk.specs.declared.memory.DoneCall.{DoneCall}
use Rattle.fkv_disk.proofs.Recorded.{calls_of-push}

-- the newest of the first calls
pub calls_of-take : (done : List DoneCall) (left : ℕ) (call : DoneCall) → 0 < left → left ≤ length done → call ≡ get_or done (left - 1) call → calls_of (take left done) ≡ call_of call ∷ calls_of (take (left - 1) done)
calls_of-take done left call some within is =
    let whole : (left - 1) + 1 ≡ left = omega arith in
    ap (λ (n : ℕ). calls_of (take n done)) (sym whole)
    ∙ ap calls_of (take_more done (left - 1) call (omega arith))
    ∙ ap (λ (c : DoneCall). calls_of (take (left - 1) done ++ c ∷ [])) (sym is)
    ∙ calls_of-push (take (left - 1) done) call

-- what comes after them
calls_of-drop : (done : List DoneCall) (left : ℕ) (call : DoneCall) → 0 < left → left ≤ length done → call ≡ get_or done (left - 1) call → calls_of (drop (left - 1) done) ≡ calls_of (drop left done) ++ call_of call ∷ []
calls_of-drop done left call some within is =
    let whole : (left - 1) + 1 ≡ left = omega arith in
    ap calls_of (drop_more done (left - 1) call (omega arith))
    ∙ ap (λ (c : DoneCall). calls_of (drop ((left - 1) + 1) done) ++ call_of c ∷ []) (sym is)
    ∙ ap (λ (n : ℕ). calls_of (drop n done) ++ call_of call ∷ []) whole

-- one call more of a replay
pub replayed_more : (opening : List ℕ) (done : List DoneCall) (i : ℕ) (call : DoneCall) → i < length done → call ≡ get_or done i call → reads_as opening (calls_of (take (i + 1) done)) ≡ reads_as opening (call_of call ∷ calls_of (take i done))
replayed_more opening done i call below is =
    ap (λ (cs : List DoneCall). reads_as opening (calls_of cs)) (take_more done i call below)
    ∙ ap (λ (c : DoneCall). reads_as opening (calls_of (take i done ++ c ∷ []))) (sym is)
    ∙ ap (reads_as opening) (calls_of-push (take i done) call)

-- the newest sync is among the first calls, and the others come after it
pub record IsSyncedWithin (done : List DoneCall) (left : ℕ) : Type 0 where
  pub within : left ≤ length done
  pub later : calls_of (drop left done) ++ since_sync (calls_of (take left done)) ≡ since_sync (calls_of done)
  pub first : (opening : List ℕ) → synced_bytes opening (calls_of (take left done)) ≡ synced_bytes opening (calls_of done)

pub synced_within_all : (done : List DoneCall) (left : ℕ) → left ≡ length done → IsSyncedWithin done left
synced_within_all done left is =
    let all : take left done ≡ done = take_all left done (omega arith) in
    let none : drop left done ≡ [] = drop_all left done (omega arith) in
    record {
      within = omega arith;
      later = ap (λ (ds : List DoneCall). calls_of ds ++ since_sync (calls_of (take left done))) none ∙ ap (λ (ds : List DoneCall). since_sync (calls_of ds)) all;
      first = λ opening. ap (λ (ds : List DoneCall). synced_bytes opening (calls_of ds)) all;
    }

module _ (done : List DoneCall) (left : ℕ) (call : DoneCall) (some : 0 < left) (so_far : IsSyncedWithin done left) (is : call ≡ get_or done (left - 1) call) where
  abbrev before : List Call
  before = calls_of (take (left - 1) done)

  newest : calls_of (take left done) ≡ call_of call ∷ before
  newest = calls_of-take done left call some so_far.within is

  -- the newest of them is a write
  pub not_synced_yet : (at : ℕ) (bytes : List ℕ) → call_of call ≡ Write at bytes true → IsSyncedWithin done (left - 1)
  not_synced_yet at bytes wrote =
      let taken : calls_of (take left done) ≡ Write at bytes true ∷ before = newest ∙ ap (λ (c : Call). c ∷ before) wrote in
      record {
        within = omega (arith, so_far.within);
        later = ap (λ (cs : List Call). cs ++ since_sync before) (calls_of-drop done left call some so_far.within is ∙ ap (λ (c : Call). calls_of (drop left done) ++ c ∷ []) wrote)
            ∙ append_assoc (calls_of (drop left done)) (Write at bytes true ∷ []) (since_sync before)
            ∙ sym (ap (λ (cs : List Call). calls_of (drop left done) ++ since_sync cs) taken)
            ∙ so_far.later;
        first = λ opening. sym (ap (synced_bytes opening) taken) ∙ so_far.first opening;
      }

  -- or a sync
  module _ (synced : call_of call ≡ Sync true) where
    taken : calls_of (take left done) ≡ Sync true ∷ before
    taken = newest ∙ ap (λ (c : Call). c ∷ before) synced

    pub synced_later : calls_of (drop left done) ≡ since_sync (calls_of done)
    synced_later = sym (append-nil (calls_of (drop left done))) ∙ sym (ap (λ (cs : List Call). calls_of (drop left done) ++ since_sync cs) taken) ∙ so_far.later

    pub synced_first : (opening : List ℕ) → reads_as opening (calls_of (take left done)) ≡ synced_bytes opening (calls_of done)
    synced_first opening = ap (reads_as opening) taken ∙ sym (ap (synced_bytes opening) taken) ∙ so_far.first opening

-- none is a sync
pub never_synced : (done : List DoneCall) (left : ℕ) → IsSyncedWithin done left → left ≡ 0 → calls_of (drop left done) ≡ since_sync (calls_of done)
never_synced done left so_far none = sym (append-nil (calls_of (drop left done))) ∙ sym (ap (λ (n : ℕ). calls_of (drop left done) ++ since_sync (calls_of (take n done))) none) ∙ so_far.later

pub never_synced_first : (done : List DoneCall) (left : ℕ) (opening : List ℕ) → IsSyncedWithin done left → left ≡ 0 → reads_as opening (calls_of (take left done)) ≡ synced_bytes opening (calls_of done)
never_synced_first done left opening so_far none = ap (λ (n : ℕ). reads_as opening (calls_of (take n done))) none ∙ sym (ap (λ (n : ℕ). synced_bytes opening (calls_of (take n done))) none) ∙ so_far.first opening

-- each is counted once
length-calls_of : (done : List DoneCall) → length (calls_of done) ≡ length done
length-calls_of [] = refl
length-calls_of (call ∷ later) = omega (arith, length-append (calls_of later) (call_of call ∷ []), length-calls_of later)

-- calls that are forgotten count on
pub same_moment : (done rest : List DoneCall) (forgotten now first : ℕ) → now ≡ forgotten + first → first ≤ length done → rest ≡ drop first done → now + length (calls_of rest) ≡ forgotten + length (calls_of done)
same_moment done rest forgotten now first sum within is = omega (arith, length-calls_of done, length-calls_of rest, ap length is, length-drop first done)
