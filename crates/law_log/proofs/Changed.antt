-- A change in place keeps what holds of a log: the record is its key's newest, so its value is the content's.
use Rattle.std.proofs.Common.{◌≡◌, ◌≢◌, inl, inr, ℕ, ◌<◌, ◌≤◌, ◌∙◌, Bool, true, false, true≢false, cond, List, [], ◌∷◌, refl, sym, ap, subst, arith}
use Rattle.std.specs.Prelude.{nat_eq}
use Rattle.fkv_map.specs.declared.history.HistoryEntry.{HistoryEntry}
use Rattle.fkv_map.specs.Map.{Map}
use Rattle.fkv_map.specs.Keys.{key_of, value_applied, reply_from}
use Rattle.fkv_map.proofs.Shown.{content_one_more, legal_one_more}
use Rattle.law_log.specs.Trace.{Effect, history_of, value_in, IsIn}
use Rattle.law_log.specs.Chains.{Cell, Logged, Unborn, Reserved, Published, value_at, version_at, has_key, has_key_in}
use Rattle.law_log.specs.Ghosts.{Log, set_at, first_from, newest_of, newest_in, shown, effect_of, changed_by}
use Rattle.law_log.specs.Enabled.{IsMade, IsChange, previous_of}
use Rattle.law_log.proofs.Chains.{set_there, set_else, at_one, same_or_other, own_number, other_number, first_is, IsFirst}
use Rattle.law_log.proofs.Versions.{in_has, latest_is_first}
use Rattle.law_log.proofs.Held.{Held, Grows, not_reserved, not_unborn, first_along, falls_along, made_stays}
use Rattle.law_log.proofs.Steps.{linked_quietly}

-- ---- what one more effect makes of a key's value
pub value_more_own : (m : Map) (history : List Effect) (effect : Effect) (key : ℕ) → key ≡ (key_of effect.entry.op).0 → value_in m (effect ∷ history) key ≡ value_applied (value_in m history key) effect.entry.op
value_more_own m history effect key own =
    content_one_more m (history_of history) effect.entry key
    ∙ ap (λ b. cond b (value_applied (value_in m history key) effect.entry.op) (value_in m history key)) (ap (λ k. nat_eq (key_of effect.entry.op).0 k) own ∙ own_number (key_of effect.entry.op).0)

pub value_more_else : (m : Map) (history : List Effect) (effect : Effect) (key : ℕ) → (key_of effect.entry.op).0 ≢ key → value_in m (effect ∷ history) key ≡ value_in m history key
value_more_else m history effect key other =
    content_one_more m (history_of history) effect.entry key
    ∙ ap (λ b. cond b (value_applied (value_in m history key) effect.entry.op) (value_in m history key)) (other_number (key_of effect.entry.op).0 key other)

pub same_cell : (cell cell' : Cell) → Published cell ≡ Published cell' → cell ≡ cell'
same_cell cell cell' same = cc

abbrev pub changed_log : Log → ℕ → HistoryEntry → Cell → Log
changed_log log a entry cell = record log { cells = set_at log.cells a (Published (changed_by entry cell)); history = effect_of entry cell ∷ log.history }

-- what a change in place meets
pub record MeetsChange (home : ℕ → ℕ) (log : Log) (a : ℕ) (entry : HistoryEntry) (cell : Cell) : Type 0 where
  pub its : log.cells a ≡ Published cell
  pub may : IsChange home log a entry cell

-- the record is the newest of its key: of its version, and none is later
pub is_newest : (home : ℕ → ℕ) (m : Map) (log : Log) (a : ℕ) (entry : HistoryEntry) (cell : Cell) → Held home m log → MeetsChange home log a entry cell → newest_of home log cell.key ≡ a
is_newest home m log a entry cell held change = elim (held.newest a cell change.its) [
  | inl newest ↦ sym (latest_is_first cell.version cell.key a log.cells (log.chains (home cell.key)) change.may.none_above (held.falls (home cell.key)) (held.chains.its_chain a cell change.its) its_own) ∙ newest
  | inr below ↦ absurd (not_both a log.fixed below change.may.not_fixed)
]
  where
    not_both : (a b : ℕ) → a < b → b ≤ a → ⊥
    not_both a b low high = omega (arith, low, high)

    its_own : has_key_in cell.version cell.key (log.cells a) ≡ true
    its_own = in_has cell.version cell.key (log.cells a) (ap (has_key cell.key) change.its ∙ own_number cell.key) (ap version_at change.its)

-- its value is the content's
value_now : (home : ℕ → ℕ) (m : Map) (log : Log) (a : ℕ) (entry : HistoryEntry) (cell : Cell) → Held home m log → MeetsChange home log a entry cell → cell.value ≡ value_in m log.history cell.key
value_now home m log a entry cell held change =
    sym (ap value_at change.its) ∙ ap (λ i. value_at (log.cells i)) (sym (is_newest home m log a entry cell held change)) ∙ held.shows cell.key

value_then : (home : ℕ → ℕ) (m : Map) (log : Log) (a : ℕ) (entry : HistoryEntry) (cell : Cell) → Held home m log → MeetsChange home log a entry cell
    → value_applied cell.value entry.op ≡ value_in m (effect_of entry cell ∷ log.history) cell.key
value_then home m log a entry cell held change =
    ap (λ v. value_applied v entry.op) (value_now home m log a entry cell held change) ∙ sym (value_more_own m log.history (effect_of entry cell) cell.key change.may.its_key)

pub changed_grows : (home : ℕ → ℕ) (m : Map) (log : Log) (a : ℕ) (entry : HistoryEntry) (cell : Cell) → Held home m log → MeetsChange home log a entry cell → Grows home m log (changed_log log a entry cell)
changed_grows home m log a entry cell held change = record {
  published = λ b its is. elim (at_one log.cells a (Published (changed_by entry cell)) b) [
    | inl here ↦ let same = same_cell cell its (sym change.its ∙ ap log.cells (sym here.0) ∙ is) in record {
      value = value_applied its.value entry.op;
      still = here.1 ∙ ap (λ c. Published (changed_by entry c)) same;
      kept = inr (
        subst (λ i. log.fixed ≤ i) (sym here.0) change.may.not_fixed,
        subst (λ c. value_applied c.value entry.op ≡ value_in m (effect_of entry cell ∷ log.history) c.key) same (value_then home m log a entry cell held change),
      );
    }
    | inr else_ ↦ record { value = its.value; still = else_.1 ∙ is; kept = inl refl }
  ];
  none = set_else log.cells a (Published (changed_by entry cell)) 0 (λ zero_is. not_unborn (log.cells 0) cell (ap log.cells zero_is ∙ change.its) held.none) ∙ held.none;
  chains = λ h b within. (refl, within);
  fixed = stays log.fixed;
  newer = effect_of entry cell ∷ [];
  longer = refl;
}
  where
    stays : (n : ℕ) → n ≤ n
    stays n = omega arith

-- the first that passes a test is another record than one that doesn't
pub first_not : (log : Log) (a : ℕ) (cell : Cell) → log.cells a ≡ Published cell → log.cells 0 ≡ Unborn → (test : Logged → Bool) → test (Published cell) ≡ false → (chain : List ℕ) (x : ℕ) → IsFirst test log.cells chain x → x ≢ a
first_not log a cell its none test fails chain x (inl zero_is) = λ same. not_unborn (log.cells a) cell its (ap log.cells (sym same ∙ zero_is) ∙ none)
first_not log a cell its none test fails chain x (inr some) = λ same. true≢false (sym some.1 ∙ ap test (ap log.cells same ∙ its) ∙ fails)

-- what others make a record of is another one
not_copied : (home : ℕ → ℕ) (m : Map) (log : Log) (a : ℕ) (entry : HistoryEntry) (cell : Cell) → MeetsChange home log a entry cell → (b : ℕ) (entry' : HistoryEntry) (its : Cell) → log.cells b ≡ Reserved entry' its → IsMade home log entry' its
    → first_from home log its.key its.previous ≢ a
not_copied home m log a entry cell change b entry' its is made = elim made.still [
  | inl fixed ↦ λ same. not_both a log.fixed (subst (λ i. i < log.fixed) same fixed) change.may.not_fixed
  | inr older ↦ λ same. change.may.no_copies b entry' its is (subst (λ v. v < its.version) (ap version_at (ap log.cells same ∙ change.its)) older) same
]
  where
    not_both : (a b : ℕ) → a < b → b ≤ a → ⊥
    not_both a b low high = omega (arith, low, high)

pub held_changed : (home : ℕ → ℕ) (m : Map) (log : Log) (a : ℕ) (entry : HistoryEntry) (cell : Cell) → Held home m log → MeetsChange home log a entry cell → Held home m (changed_log log a entry cell)
held_changed home m log a entry cell held change =
    let log' = changed_log log a entry cell in
    let new = Published (changed_by entry cell) in
    let grows = changed_grows home m log a entry cell held change in
    let newest_same : (key : ℕ) → newest_of home log' key ≡ newest_of home log key =
    λ key. first_along home m log log' held.chains grows (has_key key) (λ c value. refl) (home key) (log.chains (home key)) (λ b is_in. is_in) in
    let newest_in_same : (version key : ℕ) → newest_in home log' version key ≡ newest_in home log version key =
    λ version key. first_along home m log log' held.chains grows (has_key_in version key) (λ c value. refl) (home key) (log.chains (home key)) (λ b is_in. is_in) in
    let newest_own : newest_of home log' cell.key ≡ a = newest_same cell.key ∙ is_newest home m log a entry cell held change in
    let shows_own : shown home log' cell.key ≡ value_in m log'.history cell.key =
    ap (λ i. value_at (log'.cells i)) newest_own ∙ ap value_at (set_there log.cells a new) ∙ value_then home m log a entry cell held change in
    record {
      chains = record {
        in_chain = λ h b is_in. let its = held.chains.in_chain h b is_in in elim (at_one log.cells a new b) [
          | inl here ↦ record {
            cell = changed_by entry cell;
            its = here.1;
            its_home = ap (λ c. home c.key) (same_cell cell its.cell (sym change.its ∙ ap log.cells (sym here.0) ∙ its.its)) ∙ its.its_home;
          }
          | inr else_ ↦ record { cell = its.cell; its = else_.1 ∙ its.its; its_home = its.its_home }
        ];
        its_chain = λ b its is. elim (at_one log.cells a new b) [
          | inl here ↦ subst (λ c. IsIn b (log.chains (home c.key))) (same_cell (changed_by entry cell) its (sym here.1 ∙ is))
              (subst (λ i. IsIn i (log.chains (home cell.key))) (sym here.0) (held.chains.its_chain a cell change.its))
          | inr else_ ↦ held.chains.its_chain b its (sym else_.1 ∙ is)
        ];
        linked = λ h. linked_quietly log.cells log'.cells (log.chains h)
            (λ b is_in. elim (at_one log.cells a new b) [
              | inl here ↦ ap previous_of here.1 ∙ sym (ap previous_of (ap log.cells here.0 ∙ change.its))
              | inr else_ ↦ ap previous_of else_.1
            ]) (held.chains.linked h);
      };
      none = grows.none;
      some_fixed = held.some_fixed;
      falls = λ h. falls_along home m log log' held.chains grows h (held.falls h);
      newest = λ b its is. elim (at_one log.cells a new b) [
        | inl here ↦ elim (held.newest a cell change.its) [
          | inl first ↦ inl (ap (λ c. newest_in home log' c.version c.key) (sym (same_cell (changed_by entry cell) its (sym here.1 ∙ is))) ∙ newest_in_same cell.version cell.key ∙ first ∙ sym here.0)
          | inr below ↦ inr (subst (λ i. i < log.fixed) (sym here.0) below)
        ]
        | inr else_ ↦ elim (held.newest b its (sym else_.1 ∙ is)) [
          | inl first ↦ inl (newest_in_same its.version its.key ∙ first)
          | inr below ↦ inr below
        ]
      ];
      shows = λ key. elim (same_or_other cell.key key) [
        | inl same ↦ subst (λ k. shown home log' k ≡ value_in m log'.history k) same shows_own
        | inr other ↦ ap (λ i. value_at (log'.cells i)) (newest_same key)
            ∙ ap value_at (set_else log.cells a new (newest_of home log key)
            (first_not log a cell change.its held.none (has_key key) (other_number cell.key key other) (log.chains (home key)) (newest_of home log key) (first_is (has_key key) log.cells (log.chains (home key)))))
            ∙ held.shows key ∙ sym (value_more_else m log.history (effect_of entry cell) key (λ is. other (change.may.its_key ∙ is)))
      ];
      legal = legal_one_more m (history_of log.history) entry held.legal
          (change.may.its_reply ∙ ap (λ v. reply_from v entry.op) (value_now home m log a entry cell held change ∙ ap (value_in m log.history) change.may.its_key));
      made = λ b entry' its is. elim (at_one log.cells a new b) [
        | inl here ↦ absurd (not_reserved (log'.cells b) (changed_by entry cell) its entry' here.1 is)
        | inr else_ ↦ let was = sym else_.1 ∙ is in let made = held.made b entry' its was in (
          made.0,
          made_stays home m log log' held.chains held.none grows entry' its
              (ap value_at (set_else log.cells a new (first_from home log its.key its.previous) (not_copied home m log a entry cell change b entry' its was made.1))) made.1,
        )
      ];
    }
