-- What a history says of calls and reads it says by its entries alone: so does one with the same entries, whatever the versions.
use Rattle.std.proofs.Common.{◌≡◌, ◌∙◌, ap, sym, refl, subst, inl, inr, ℕ, List, [], ◌∷◌, ◌++◌}
use Rattle.std.specs.Prelude.{Some}
use Rattle.fkv_map.specs.History.{content}
use Rattle.fkv_map.specs.Map.{Map, reply_to_read}
use Rattle.fkv_map.specs.declared.history.HistoryEntry.{HistoryEntry}
use Rattle.fkv_map.specs.declared.operations.Reply.{Reply}
use Rattle.law_log.specs.Trace.{Effect, TraceLine, CallsUpdate, HasUpdate, HaveTakenEffect, IsFresh, IsIn, OrdersCalls, ReadsAreFresh, called_as}
use Rattle.law_commit.specs.Below.law_refine.Calls.Calls.{entries_of}
use Rattle.law_commit.proofs.Below.law_refine.OfCalls.SameHistory.{same_history, same_reply, same_update}
use Rattle.std.specs.FinMap.{get}

-- ---- cut at the same place
-- a history in two parts, the older of which has these entries
record IsCut (effects older : List Effect) : Type 0 where
  front : List Effect
  back : List Effect
  whole : effects ≡ front ++ back
  same : entries_of back ≡ entries_of older

heads : (one other : HistoryEntry) (ones others : List HistoryEntry) → one ∷ ones ≡ other ∷ others → one ≡ other
heads one other ones others same = cc

tails : (one other : HistoryEntry) (ones others : List HistoryEntry) → one ∷ ones ≡ other ∷ others → ones ≡ others
tails one other ones others same = cc

never : (entry : HistoryEntry) (rest : List HistoryEntry) → [] ≡ entry ∷ rest → ⊥
never entry rest same = cc

cut_so : (effects newer older : List Effect) → entries_of effects ≡ entries_of (newer ++ older) → IsCut effects older
cut_so effects [] older same = record { front = []; back = effects; whole = refl; same = same }
cut_so [] (effect ∷ newer) older same = absurd (never _ _ same)
cut_so (it ∷ effects) (effect ∷ newer) older same =
    let rest : IsCut effects older = cut_so effects newer older (tails _ _ _ _ same) in
    record { front = it ∷ rest.front; back = rest.back; whole = ap (λ (x : List Effect). it ∷ x) rest.whole; same = rest.same }

-- and behind an effect with this entry
record IsCutAt (effects older : List Effect) (effect : Effect) : Type 0 where
  front : List Effect
  its : Effect
  back : List Effect
  whole : effects ≡ front ++ its ∷ back
  entry : its.entry ≡ effect.entry
  same : entries_of back ≡ entries_of older

first_of_back : (effects older : List Effect) (effect : Effect) (front back : List Effect) → effects ≡ front ++ back → entries_of back ≡ entries_of (effect ∷ older) → IsCutAt effects older effect
first_of_back effects older effect front [] whole same = absurd (never _ _ same)
first_of_back effects older effect front (it ∷ back) whole same = record { front = front; its = it; back = back; whole = whole; entry = heads _ _ _ _ same; same = tails _ _ _ _ same }

cut_at : (effects newer older : List Effect) (effect : Effect) → entries_of effects ≡ entries_of (newer ++ effect ∷ older) → IsCutAt effects older effect
cut_at effects newer older effect same =
    let its : IsCut effects (effect ∷ older) = cut_so effects newer (effect ∷ older) same in
    first_of_back effects older effect its.front its.back its.whole its.same

-- an effect with this entry stands in it
entry_in : (one other : List Effect) (effect : Effect) → entries_of one ≡ entries_of other → IsIn effect other → (its : Effect) × (IsIn its one) × (its.entry ≡ effect.entry)
entry_in one [] effect same there = absurd there
entry_in [] (it ∷ other) effect same there = absurd (never _ _ same)
entry_in (it ∷ one) (its ∷ other) effect same (inl here) = (it, inl refl, heads _ _ _ _ same ∙ ap (λ (x : Effect). x.entry) here)
entry_in (it ∷ one) (its ∷ other) effect same (inr later) =
    let found : (x : Effect) × (IsIn x one) × (x.entry ≡ effect.entry) = entry_in one other effect (tails _ _ _ _ same) later in
    (found.0, inr found.1, found.2)

-- ---- calls
taken_by : (lines : List TraceLine) (one other : List Effect) → entries_of one ≡ entries_of other → HaveTakenEffect lines one → HaveTakenEffect lines other
taken_by lines one other same taken = λ session serial reply given. same_update one other session serial same (taken session serial reply given)

CallsIt : List TraceLine → HistoryEntry → Type 0
CallsIt trace entry = called_as trace entry.session entry.serial.0 ≡ Some entry.op

module _ (one other : List Effect) (same : entries_of one ≡ entries_of other) where
  pub orders_by : (trace : List TraceLine) → OrdersCalls one trace → OrdersCalls other trace
  unfolding CallsIt
  orders_by trace its = record {
    given = λ session serial reply there. same_reply one other session serial reply same (its.given session serial reply there);
    once = λ newer older effect whole has.
        let cut : IsCutAt one older effect = cut_at one newer older effect (same ∙ ap entries_of whole) in
        its.once cut.front cut.back cut.its cut.whole
        (same_update older cut.back cut.its.entry.session cut.its.entry.serial.0 (sym cut.same) (subst (λ (entry : HistoryEntry). HasUpdate older entry.session entry.serial.0) (sym cut.entry) has));
    called = λ effect there.
        let found : (x : Effect) × (IsIn x one) × (x.entry ≡ effect.entry) = entry_in one other effect same there in
        subst (CallsIt trace) found.2 (its.called found.0 found.1);
    in_order = λ newer older effect later earlier op whole told.
        let cut : IsCutAt one older effect = cut_at one newer older effect (same ∙ ap entries_of whole) in
        taken_by earlier cut.back older cut.same
        (its.in_order cut.front cut.back cut.its later earlier op cut.whole
        (subst (λ (entry : HistoryEntry). trace ≡ later ++ CallsUpdate entry.session entry.serial.0 op ∷ earlier) (sym cut.entry) told));
  }

  -- ---- reads
  fresh_so : (m : Map) (key : ℕ) (reply : Reply) (earlier later : List TraceLine) → IsFresh m one key reply earlier later → IsFresh m other key reply earlier later
  fresh_so m key reply earlier later its =
      let cut : IsCut other its.older = cut_so other its.newer its.older (sym same ∙ ap entries_of its.all) in
      record {
        newer = cut.front;
        older = cut.back;
        all = cut.whole;
        value = its.value ∙ ap (λ (entries : List HistoryEntry). reply_to_read (get (content m entries) key)) (sym (same_history cut.back its.older cut.same));
        given_before = taken_by earlier its.older cut.back (sym cut.same) its.given_before;
        called_later = λ session serial op there has. its.called_later session serial op there (same_update cut.back its.older session serial cut.same has);
      }

  pub fresh_by : (m : Map) (trace : List TraceLine) → ReadsAreFresh m one trace → ReadsAreFresh m other trace
  fresh_by m trace its = record {
    called = its.called;
    fresh = λ later between earlier reader key reply told. fresh_so m key reply earlier later (its.fresh later between earlier reader key reply told);
  }
