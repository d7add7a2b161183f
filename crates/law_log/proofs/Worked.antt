-- The worked runs, event by event.
use Rattle.std.proofs.Common.{◌≡◌, ◌≢◌, inl, inr, ℕ, ◌<◌, ◌≤◌, ◌∙◌, Some, List, [], ◌∷◌, ◌++◌, refl, sym, ap, subst, arith}
use Rattle.fkv_map.specs.declared.operations.Reply.{Reply}
use Rattle.fkv_map.specs.declared.operations.Reply.TheVariants.{Nothing, Number, Found, Absent}
use Rattle.fkv_map.specs.declared.history.HistoryEntry.{HistoryEntry}
use Rattle.fkv_map.specs.Map.{reply_to_read}
use Rattle.law_log.specs.Trace.{Effect, IsIn, HasUpdate, GivesResult, CallsUpdate, value_in, history_of}
use Rattle.law_log.specs.Chains.{Cell, Logged, Unborn, Reserved, Published, version_at}
use Rattle.law_log.specs.Ghosts.{Fixes, ghosts_after, ghost_run, set_at, effect_of, changed_by}
use Rattle.law_log.specs.Enabled.{AreEnabled, IsOpened}
use Rattle.law_log.specs.Worked.{no_map, one_home, empty_log, entry_of, cell_of, gives_70, adds_5, gives_8, kept_run, both_add, gets_70, ChangesWhatIsFixed, CopiesWhatMayChange, GivesOpeningState}
use Rattle.fkv_map.proofs.Shown.{legal_each}
use Rattle.std.specs.FinMap.{get-empty}
use Rattle.std.specs.Ordering.{nat_cmp}
use Rattle.law_log.proofs.Chains.{at_one}
use Rattle.law_log.proofs.Changed.{value_more_own}
use Rattle.law_log.proofs.Lists.{no_place}

not_published : (cell : Cell) → Unborn ≡ Published cell → ⊥
not_published cell is = grind (arith, is)

none_reserved : (entry : HistoryEntry) (cell : Cell) → Unborn ≡ Reserved entry cell → ⊥
none_reserved entry cell is = grind (arith, is)

was_published : (entry : HistoryEntry) (cell other : Cell) → Published other ≡ Reserved entry cell → ⊥
was_published entry cell other is = grind (arith, is)

pub worked_opened : IsOpened one_home no_map 0 empty_log
worked_opened = record {
  chains = record {
    in_chain = λ h a is_in. absurd is_in;
    its_chain = λ a cell is. absurd (not_published cell is);
    linked = λ h. tt;
  };
  none = refl;
  some_fixed = omega arith;
  all_fixed = λ a cell is. absurd (not_published cell is);
  one_version = λ a cell is. absurd (not_published cell is);
  none_reserved = λ a entry cell is. none_reserved entry cell is;
  shows = λ key. sym (get-empty nat_cmp key);
  no_history = refl;
  no_trace = refl;
  no_reads = λ reader. refl;
}

-- ---- the run that keeps to the rules
-- two records, the first published, the other being made
first_made : ℕ → Logged
first_made = set_at (λ a. Unborn) 1 (Reserved (entry_of 0 1 gives_70 Nothing) (cell_of 5 70 0))

first_published : ℕ → Logged
first_published = set_at first_made 1 (Published (cell_of 5 70 0))

second_made : ℕ → Logged
second_made = set_at first_published 2 (Reserved (entry_of 0 2 gives_8 Nothing) (cell_of 6 8 1))

sum_in_place : ℕ → Logged
sum_in_place = set_at second_made 1 (Published (changed_by (entry_of 1 1 adds_5 (Number (record { 0 = 75 }))) (cell_of 5 70 0)))

-- the chain has the first record alone
low_first : (cells : ℕ → Logged) → version_at (cells 1) ≤ 1 → (a : ℕ) → IsIn a (1 ∷ []) → version_at (cells a) ≤ 1
low_first cells low a is_in = elim is_in [
  | inl same ↦ subst (λ i. version_at (cells i) ≤ 1) same low
  | inr none ↦ absurd none
]

one_is_low : 1 ≤ 1
one_is_low = omega arith

same_cell : (entry other : HistoryEntry) (cell its : Cell) → Reserved entry cell ≡ Reserved other its → cell ≡ its
same_cell entry other cell its is = cc

-- no record is made of a later version
none_later : (b : ℕ) (entry : HistoryEntry) (cell : Cell) → second_made b ≡ Reserved entry cell → 1 < cell.version → ⊥
unfolding first_made first_published second_made
none_later b entry cell is later = elim (at_one first_published 2 (Reserved (entry_of 0 2 gives_8 Nothing) (cell_of 6 8 1)) b) [
  | inl here ↦ not_above cell.version (ap (λ c. c.version) (same_cell (entry_of 0 2 gives_8 Nothing) entry (cell_of 6 8 1) cell (sym here.1 ∙ is))) later
  | inr other ↦ elim (at_one first_made 1 (Published (cell_of 5 70 0)) b) [
    | inl here ↦ was_published entry cell (cell_of 5 70 0) (sym here.1 ∙ sym other.1 ∙ is)
    | inr again ↦ elim (at_one (λ a. Unborn) 1 (Reserved (entry_of 0 1 gives_70 Nothing) (cell_of 5 70 0)) b) [
      | inl here ↦ again.0 here.0
      | inr at_last ↦ none_reserved entry cell (sym at_last.1 ∙ sym again.1 ∙ sym other.1 ∙ is)
    ]
  ]
]
  where
    not_above : (v : ℕ) → 1 ≡ v → 1 < v → ⊥
    not_above v same above = omega (arith, same, above)

-- an effect of another session, or another serial, is another one
other_session : (e it : Effect) (session : ℕ) → e ≡ it → it.entry.session ≡ session → e.entry.session ≢ session → ⊥
other_session e it session same its other = other (ap (λ x. x.entry.session) same ∙ its)

other_serial : (e it : Effect) (serial : ℕ) → e ≡ it → it.entry.serial.0 ≡ serial → e.entry.serial.0 ≢ serial → ⊥
other_serial e it serial same its other = other (ap (λ x. x.entry.serial.0) same ∙ its)

effect_70 : Effect
effect_70 = effect_of (entry_of 0 1 gives_70 Nothing) (cell_of 5 70 0)

effect_75 : Effect
effect_75 = effect_of (entry_of 1 1 adds_5 (Number (record { 0 = 75 }))) (cell_of 5 70 0)

none_of_1 : HasUpdate (effect_70 ∷ []) 1 1 → ⊥
unfolding effect_70
none_of_1 has = elim has.is_in [
  | inl same ↦ other_session effect_70 has.effect 1 same has.its_session (λ is. omega (arith, is))
  | inr none ↦ none
]

none_of_2 : HasUpdate (effect_75 ∷ effect_70 ∷ []) 0 2 → ⊥
unfolding effect_70 effect_75
none_of_2 has = elim has.is_in [
  | inl same ↦ other_session effect_75 has.effect 0 same has.its_session (λ is. omega (arith, is))
  | inr older ↦ elim older [
    | inl same ↦ other_serial effect_70 has.effect 2 same has.its_serial (λ is. omega (arith, is))
    | inr none ↦ none
  ]
]

pub worked_enabled : AreEnabled one_home empty_log kept_run
unfolding AreEnabled ghosts_after ghost_run set_at effect_70 effect_75 first_made first_published second_made sum_in_place
worked_enabled = (
  (
    (
      (
        (
          (
            (
              (
                (
                  (
                    (
                      (
                        (
                          (tt, refl),
                          (refl, omega arith, record { its_key = refl; leads = inl refl; still = inl (omega arith); its_value = refl; its_reply = refl }),
                        ),
                        (refl, λ a is_in. absurd is_in, record { called = refl; none_yet = λ has. has.is_in }),
                      ),
                      record { update = record { effect = effect_70; is_in = inl refl; its_session = refl; its_serial = refl }; its_reply = refl },
                    ),
                    refl,
                  ),
                  tt,
                ),
                refl,
              ),
              refl,
            ),
            (refl, omega arith, record { its_key = refl; leads = inr (inl refl); still = inl (omega arith); its_value = refl; its_reply = refl }),
          ),
          (record { not_fixed = omega arith; no_copies = λ b entry cell is later same. none_later b entry cell is later; none_above = low_first second_made one_is_low; its_key = refl; its_reply = refl }, record { called = refl; none_yet = none_of_1 }),
        ),
        record { update = record { effect = effect_75; is_in = inl refl; its_session = refl; its_serial = refl }; its_reply = refl },
      ),
      tt,
    ),
    (refl, low_first sum_in_place one_is_low, record { called = refl; none_yet = none_of_2 }),
  ),
  (5, effect_70 ∷ [], Some 75, refl, refl),
)

-- ---- the runs that break a rule
number_in : Reply → ℕ
number_in (Number value) = value.0
number_in (Found value) = value.0
number_in other = 0

not_80 : Number (record { 0 = 75 }) ≡ Number (record { 0 = 80 }) → ⊥
unfolding number_in
not_80 is = let same : 75 ≡ 80 = ap number_in is in omega (arith, same)

pub both_adds_wrong : ChangesWhatIsFixed
unfolding ghosts_after ghost_run set_at
both_adds_wrong = λ legal. not_80 (legal_each no_map (history_of (ghost_run one_home empty_log (both_add (Fixes 2 ∷ gets_70))).log.history) legal 5).1.1.0

pub both_adds_late : CopiesWhatMayChange
unfolding ghosts_after ghost_run set_at
both_adds_late = λ legal. not_80 (legal_each no_map (history_of (ghost_run one_home empty_log (both_add gets_70)).log.history) legal 5).1.1.0

not_absent : Absent ≡ Found (record { 0 = 70 }) → ⊥
unfolding number_in
not_absent is = let same : 0 ≡ 70 = ap number_in is in omega (arith, same)

not_stale : (newer older : List Effect) → effect_70 ∷ [] ≡ newer ++ older → Absent ≡ reply_to_read (value_in no_map older 5) → HasUpdate older 0 1 → ⊥
unfolding effect_70
not_stale [] older all value has = not_absent (value ∙ ap (λ h. reply_to_read (value_in no_map h 5)) (sym all) ∙ ap reply_to_read (value_more_own no_map [] effect_70 5 refl))
not_stale (x ∷ []) older all value has = let none : [] ≡ older = cc in subst (IsIn has.effect) (sym none) has.is_in
not_stale (x ∷ y ∷ newer) older all value has = let none : [] ≡ y ∷ (newer ++ older) = cc in no_place y [] (newer ++ older) none

pub stale_read : GivesOpeningState
unfolding ghosts_after ghost_run set_at effect_70
stale_read = λ reads.
    let its = reads.fresh [] [] (GivesResult 0 1 Nothing ∷ CallsUpdate 0 1 gives_70 ∷ []) 0 5 Absent refl in
    not_stale its.newer its.older its.all its.value (its.given_before 0 1 Nothing (inl refl))
