-- Version by version: the records up to a version show the content of the effects up to it, and these are legal by themselves.
use Rattle.std.proofs.Common.{◌≡◌, inl, inr, ℕ, ◌≤◌, ◌∙◌, Bool, true, false, cond, ◌∷◌, refl, sym, ap, subst, arith}
use Rattle.std.specs.Prelude.{◌&&◌, nat_eq, nat_le}
use Rattle.std.proofs.lemmas.Bool.Decides.{nat_tests}
use Rattle.fkv_map.specs.declared.history.HistoryEntry.{HistoryEntry}
use Rattle.fkv_map.specs.Map.{Map}
use Rattle.fkv_map.specs.History.{IsLegal}
use Rattle.fkv_map.specs.Keys.{value_applied, reply_from}
use Rattle.fkv_map.proofs.Shown.{legal_one_more}
use Rattle.law_log.specs.Trace.{history_of, value_in, upto}
use Rattle.law_log.specs.Chains.{Cell, Logged, Published, value_at, has_key_upto}
use Rattle.law_log.specs.Ghosts.{Log, set_at, first_from, newest_upto, shown_upto, effect_of, changed_by}
use Rattle.law_log.specs.Enabled.{IsMade}
use Rattle.law_log.proofs.Chains.{set_there, set_else, same_or_other, other_number, first_is}
use Rattle.law_log.proofs.Versions.{upto_is_all}
use Rattle.law_log.proofs.Held.{Held, first_along}
use Rattle.law_log.proofs.Steps.{IsQuiet, quiet_log, first_quietly}
use Rattle.law_log.proofs.Changed.{MeetsChange, changed_log, changed_grows, is_newest, first_not, value_more_own, value_more_else}
use Rattle.law_log.proofs.Published.{MeetsPublish, published_log, made_of, newest_own, newest_else, first_apart}

pub record HeldUpto (home : ℕ → ℕ) (m : Map) (version : ℕ) (log : Log) : Type 0 where
  pub shows : (n key : ℕ) → version ≤ n → shown_upto home log n key ≡ value_in m (upto n log.history) key
  pub legal : (n : ℕ) → version ≤ n → IsLegal m (history_of (upto n log.history))

pub upto_quietly : (home : ℕ → ℕ) (m : Map) (version : ℕ) (log : Log) (cells : ℕ → Logged) (fixed : ℕ) → Held home m log → IsQuiet home log cells fixed → HeldUpto home m version log → HeldUpto home m version (quiet_log log cells fixed)
upto_quietly home m version log cells fixed held quiet known = record {
  shows = λ n key since. first_quietly home m log cells fixed held quiet (has_key_upto n key) (λ c value. refl) (home key) ∙ known.shows n key since;
  legal = known.legal;
}

-- ---- the tests of one record
passes_own : (n key version : ℕ) → nat_le version n ≡ true → (nat_eq key key && nat_le version n) ≡ true
passes_own n key version is = grind (arith, nat_tests, is)

fails_other : (t u : Bool) → t ≡ false → (t && u) ≡ false
fails_other t u is = rw is refl

fails_later : (t u : Bool) → u ≡ false → (t && u) ≡ false
fails_later t u is = grind (arith, is)

within : (v n : ℕ) → nat_le v n ≡ true → v ≤ n
within v n is = grind (arith, nat_tests, is)

-- ---- a change in place
-- the record's value is that of the effects up to a version that isn't below its own
own_upto : (home : ℕ → ℕ) (m : Map) (version : ℕ) (log : Log) (a : ℕ) (entry : HistoryEntry) (cell : Cell) → Held home m log → HeldUpto home m version log → MeetsChange home log a entry cell
    → (n : ℕ) → version ≤ n → cell.version ≤ n → (newest_upto home log n cell.key ≡ a) × (cell.value ≡ value_in m (upto n log.history) cell.key)
own_upto home m version log a entry cell held known change n since own =
    let newest : newest_upto home log n cell.key ≡ a =
    upto_is_all cell.version n cell.key log.cells (log.chains (home cell.key)) change.may.none_above own ∙ is_newest home m log a entry cell held change in
    (newest, sym (ap value_at change.its) ∙ ap (λ i. value_at (log.cells i)) (sym newest) ∙ known.shows n cell.key since)

pub upto_changed : (home : ℕ → ℕ) (m : Map) (version : ℕ) (log : Log) (a : ℕ) (entry : HistoryEntry) (cell : Cell) → Held home m log → HeldUpto home m version log → MeetsChange home log a entry cell → HeldUpto home m version (changed_log log a entry cell)
upto_changed home m version log a entry cell held known change = record {
  shows = λ n key since. shows n since (nat_le cell.version n) refl key;
  legal = λ n since. legal n since (nat_le cell.version n) refl;
}
  where
    new : Logged
    new = Published (changed_by entry cell)

    same : (n key : ℕ) → newest_upto home (changed_log log a entry cell) n key ≡ newest_upto home log n key
    same n key = first_along home m log (changed_log log a entry cell) held.chains (changed_grows home m log a entry cell held change) (has_key_upto n key) (λ c value. refl) (home key) (log.chains (home key)) (λ b is_in. is_in)

    shows_else : (n key : ℕ) → version ≤ n → has_key_upto n key (Published cell) ≡ false → shown_upto home (changed_log log a entry cell) n key ≡ value_in m (upto n log.history) key
    shows_else n key since fails =
        ap (λ i. value_at (set_at log.cells a new i)) (same n key)
        ∙ ap value_at (set_else log.cells a new (newest_upto home log n key)
        (first_not log a cell change.its held.none (has_key_upto n key) fails (log.chains (home key)) (newest_upto home log n key) (first_is (has_key_upto n key) log.cells (log.chains (home key)))))
        ∙ known.shows n key since

    shows : (n : ℕ) → version ≤ n → (t : Bool) → nat_le cell.version n ≡ t → (key : ℕ) → shown_upto home (changed_log log a entry cell) n key ≡ value_in m (cond t (effect_of entry cell ∷ upto n log.history) (upto n log.history)) key
    shows n since false is key = shows_else n key since (fails_later (nat_eq cell.key key) (nat_le cell.version n) is)
    shows n since true is key = elim (same_or_other cell.key key) [
      | inl own ↦ subst (λ k. shown_upto home (changed_log log a entry cell) n k ≡ value_in m (effect_of entry cell ∷ upto n log.history) k) own (
          let its = own_upto home m version log a entry cell held known change n since (within cell.version n is) in
          ap (λ i. value_at (set_at log.cells a new i)) (same n cell.key ∙ its.0) ∙ ap value_at (set_there log.cells a new)
          ∙ ap (λ v. value_applied v entry.op) its.1 ∙ sym (value_more_own m (upto n log.history) (effect_of entry cell) cell.key change.may.its_key))
      | inr other ↦ shows_else n key since (fails_other (nat_eq cell.key key) (nat_le cell.version n) (other_number cell.key key other))
          ∙ sym (value_more_else m (upto n log.history) (effect_of entry cell) key (λ own. other (change.may.its_key ∙ own)))
    ]

    legal : (n : ℕ) → version ≤ n → (t : Bool) → nat_le cell.version n ≡ t → IsLegal m (history_of (cond t (effect_of entry cell ∷ upto n log.history) (upto n log.history)))
    legal n since false is = known.legal n since
    legal n since true is = legal_one_more m (history_of (upto n log.history)) entry (known.legal n since)
        (change.may.its_reply ∙ ap (λ v. reply_from v entry.op) ((own_upto home m version log a entry cell held known change n since (within cell.version n is)).1 ∙ ap (value_in m (upto n log.history)) change.may.its_key))

-- ---- a record that is published
-- what it was made of has the value of the effects up to a version that isn't below its own
old_upto : (home : ℕ → ℕ) (m : Map) (version : ℕ) (log : Log) (a : ℕ) (entry : HistoryEntry) (cell : Cell) → HeldUpto home m version log → MeetsPublish home log a entry cell → (n : ℕ) → version ≤ n → cell.version ≤ n
    → value_at (log.cells (first_from home log cell.key cell.previous)) ≡ value_in m (upto n log.history) cell.key
old_upto home m version log a entry cell known publish n since own =
    ap (λ i. value_at (log.cells i)) (made_of home log a entry cell publish ∙ sym (upto_is_all cell.version n cell.key log.cells (log.chains (home cell.key)) publish.none_above own))
    ∙ known.shows n cell.key since

pub upto_published : (home : ℕ → ℕ) (m : Map) (version : ℕ) (log : Log) (a : ℕ) (entry : HistoryEntry) (cell : Cell) → Held home m log → HeldUpto home m version log → MeetsPublish home log a entry cell → HeldUpto home m version (published_log home log a entry cell)
upto_published home m version log a entry cell held known publish = record {
  shows = λ n key since. shows n since (nat_le cell.version n) refl key;
  legal = λ n since. legal n since (nat_le cell.version n) refl;
}
  where
    made : IsMade home log entry cell
    made = (held.made a entry cell publish.its).1

    shows_else : (n key : ℕ) → version ≤ n → has_key_upto n key (Published cell) ≡ false → shown_upto home (published_log home log a entry cell) n key ≡ value_in m (upto n log.history) key
    shows_else n key since fails =
        ap (λ i. value_at (set_at log.cells a (Published cell) i)) (newest_else home m log a entry cell held publish (has_key_upto n key) (λ c value. refl) fails (home key))
        ∙ ap value_at (set_else log.cells a (Published cell) (newest_upto home log n key)
        (first_apart home m log a entry cell held publish (has_key_upto n key) (home key) (log.chains (home key)) (newest_upto home log n key) (λ b is_in. is_in) (first_is (has_key_upto n key) log.cells (log.chains (home key)))))
        ∙ known.shows n key since

    shows : (n : ℕ) → version ≤ n → (t : Bool) → nat_le cell.version n ≡ t → (key : ℕ) → shown_upto home (published_log home log a entry cell) n key ≡ value_in m (cond t (effect_of entry cell ∷ upto n log.history) (upto n log.history)) key
    shows n since false is key = shows_else n key since (fails_later (nat_eq cell.key key) (nat_le cell.version n) is)
    shows n since true is key = elim (same_or_other cell.key key) [
      | inl own ↦ subst (λ k. shown_upto home (published_log home log a entry cell) n k ≡ value_in m (effect_of entry cell ∷ upto n log.history) k) own (
          ap (λ i. value_at (set_at log.cells a (Published cell) i)) (newest_own home log a entry cell (has_key_upto n cell.key) (passes_own n cell.key cell.version is)) ∙ ap value_at (set_there log.cells a (Published cell))
          ∙ made.its_value ∙ ap (λ v. value_applied v entry.op) (old_upto home m version log a entry cell known publish n since (within cell.version n is))
          ∙ sym (value_more_own m (upto n log.history) (effect_of entry cell) cell.key made.its_key))
      | inr other ↦ shows_else n key since (fails_other (nat_eq cell.key key) (nat_le cell.version n) (other_number cell.key key other))
          ∙ sym (value_more_else m (upto n log.history) (effect_of entry cell) key (λ own. other (made.its_key ∙ own)))
    ]

    legal : (n : ℕ) → version ≤ n → (t : Bool) → nat_le cell.version n ≡ t → IsLegal m (history_of (cond t (effect_of entry cell ∷ upto n log.history) (upto n log.history)))
    legal n since false is = known.legal n since
    legal n since true is = legal_one_more m (history_of (upto n log.history)) entry (known.legal n since)
        (made.its_reply ∙ ap (λ v. reply_from v entry.op) (old_upto home m version log a entry cell known publish n since (within cell.version n is) ∙ ap (value_in m (upto n log.history)) made.its_key))
