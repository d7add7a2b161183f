-- Each class of steps keeps what holds of a log, and leaves to others what Grows says.
use Rattle.std.proofs.Common.{◌≡◌, ◌≢◌, inl, inr, ℕ, Bool, ◌<◌, ◌≤◌, ◌∙◌, List, [], ◌∷◌, refl, sym, ap, subst, arith}
use Rattle.fkv_map.specs.declared.history.HistoryEntry.{HistoryEntry}
use Rattle.fkv_map.specs.Map.{Map}
use Rattle.law_log.specs.Trace.{IsIn}
use Rattle.law_log.specs.Chains.{Cell, Logged, Unborn, Reserved, Published, Dropped, value_at, has_key, has_key_in, chain_from, first_such}
use Rattle.law_log.specs.Ghosts.{Log, set_at, first_from}
use Rattle.law_log.specs.Enabled.{IsMade, IsLinked, previous_of}
use Rattle.law_log.proofs.Chains.{set_else, at_one, first_is, IsFirst, in_from}
use Rattle.law_log.proofs.Held.{Held, Grows, IsBlind, ArePartOf, not_reserved, not_unborn, first_along, falls_along, made_stays}

-- ---- steps that change neither a chain nor a published record nor the history
pub record IsQuiet (home : ℕ → ℕ) (log : Log) (cells : ℕ → Logged) (fixed : ℕ) : Type 0 where
  pub stays : (a : ℕ) (cell : Cell) → log.cells a ≡ Published cell → cells a ≡ Published cell
  pub none_new : (a : ℕ) (cell : Cell) → cells a ≡ Published cell → log.cells a ≡ Published cell
  pub none : cells 0 ≡ Unborn
  pub rises : log.fixed ≤ fixed
  pub made : (a : ℕ) (entry : HistoryEntry) (cell : Cell) → cells a ≡ Reserved entry cell → (cell.previous < a) × IsMade home log entry cell

abbrev pub quiet_log : Log → (ℕ → Logged) → ℕ → Log
quiet_log log cells fixed = record log { cells = cells; fixed = fixed }

pub quiet_grows : (home : ℕ → ℕ) (m : Map) (log : Log) (cells : ℕ → Logged) (fixed : ℕ) → IsQuiet home log cells fixed → Grows home m log (quiet_log log cells fixed)
quiet_grows home m log cells fixed quiet = record {
  published = λ a cell is. record { value = cell.value; still = quiet.stays a cell is; kept = inl refl };
  none = quiet.none;
  chains = λ h a within. (refl, within);
  fixed = quiet.rises;
  newer = [];
  longer = refl;
}

pub linked_quietly : (cells cells' : ℕ → Logged) (chain : List ℕ) → ((a : ℕ) → IsIn a chain → previous_of (cells' a) ≡ previous_of (cells a)) → IsLinked cells chain → IsLinked cells' chain
linked_quietly cells cells' [] same linked = tt
linked_quietly cells cells' (a ∷ older) same linked = (same a (inl refl) ∙ linked.0, linked.1, linked_quietly cells cells' older (λ b is_in. same b (inr is_in)) linked.2)

-- in a chain, and so for what a record was made of, values stay
value_quietly : (home : ℕ → ℕ) (m : Map) (log : Log) (cells : ℕ → Logged) (fixed : ℕ) → Held home m log → IsQuiet home log cells fixed → (test : Logged → Bool) (h a : ℕ) (chain : List ℕ) → ArePartOf log h chain → IsFirst test log.cells chain a
    → value_at (cells a) ≡ value_at (log.cells a)
value_quietly home m log cells fixed held quiet test h a chain part (inl zero_is) =
    ap (λ i. value_at (cells i)) zero_is ∙ ap value_at quiet.none ∙ sym (ap value_at held.none) ∙ ap (λ i. value_at (log.cells i)) (sym zero_is)
value_quietly home m log cells fixed held quiet test h a chain part (inr some) =
    let its = held.chains.in_chain h a (part a some.0) in
    ap value_at (quiet.stays a its.cell its.its) ∙ sym (ap value_at its.its)

pub first_quietly : (home : ℕ → ℕ) (m : Map) (log : Log) (cells : ℕ → Logged) (fixed : ℕ) → Held home m log → IsQuiet home log cells fixed → (test : Logged → Bool) → IsBlind test → (h : ℕ)
    → value_at (cells (first_such test cells (log.chains h))) ≡ value_at (log.cells (first_such test log.cells (log.chains h)))
first_quietly home m log cells fixed held quiet test blind h =
    let chain = log.chains h in
    ap (λ i. value_at (cells i)) (first_along home m log (quiet_log log cells fixed) held.chains (quiet_grows home m log cells fixed quiet) test blind h chain (λ a is_in. is_in))
    ∙ value_quietly home m log cells fixed held quiet test h (first_such test log.cells chain) chain (λ a is_in. is_in) (first_is test log.cells chain)

pub held_quietly : (home : ℕ → ℕ) (m : Map) (log : Log) (cells : ℕ → Logged) (fixed : ℕ) → Held home m log → IsQuiet home log cells fixed → Held home m (quiet_log log cells fixed)
held_quietly home m log cells fixed held quiet =
    let log' = quiet_log log cells fixed in
    let grows = quiet_grows home m log cells fixed quiet in
    record {
      chains = record {
        in_chain = λ h a is_in. let its = held.chains.in_chain h a is_in in record { cell = its.cell; its = quiet.stays a its.cell its.its; its_home = its.its_home };
        its_chain = λ a cell is. held.chains.its_chain a cell (quiet.none_new a cell is);
        linked = λ h. linked_quietly log.cells cells (log.chains h)
            (λ a is_in. let its = held.chains.in_chain h a is_in in ap previous_of (quiet.stays a its.cell its.its) ∙ sym (ap previous_of its.its)) (held.chains.linked h);
      };
      none = quiet.none;
      some_fixed = above log.fixed fixed held.some_fixed quiet.rises;
      falls = λ h. falls_along home m log log' held.chains grows h (held.falls h);
      newest = λ a cell is. elim (held.newest a cell (quiet.none_new a cell is)) [
        | inl first ↦ inl (first_along home m log log' held.chains grows (has_key_in cell.version cell.key) (λ c value. refl) (home cell.key) (log.chains (home cell.key)) (λ b is_in. is_in) ∙ first)
        | inr below ↦ inr (still_below a log.fixed fixed below quiet.rises)
      ];
      shows = λ key. first_quietly home m log cells fixed held quiet (has_key key) (λ c value. refl) (home key) ∙ held.shows key;
      legal = held.legal;
      made = λ a entry cell is. let its = quiet.made a entry cell is in
          (its.0, made_stays home m log log' held.chains held.none grows entry cell (kept entry cell its.1) its.1);
    }
  where
    above : (a b : ℕ) → 0 < a → a ≤ b → 0 < b
    above a b low high = omega (arith, low, high)

    still_below : (a b c : ℕ) → a < b → b ≤ c → a < c
    still_below a b c low high = omega (arith, low, high)

    kept : (entry : HistoryEntry) (cell : Cell) → IsMade home log entry cell → value_at (cells (first_from home log cell.key cell.previous)) ≡ value_at (log.cells (first_from home log cell.key cell.previous))
    kept entry cell made =
        let chain = chain_from cell.previous (log.chains (home cell.key)) in
        value_quietly home m log cells fixed held quiet (has_key cell.key) (home cell.key) (first_from home log cell.key cell.previous) chain (λ b is_in. in_from cell.previous b (log.chains (home cell.key)) is_in)
        (first_is (has_key cell.key) log.cells chain)

-- ---- the quiet steps
same_made : (entry entry' : HistoryEntry) (cell cell' : Cell) → Reserved entry cell ≡ Reserved entry' cell' → (entry ≡ entry') × (cell ≡ cell')
same_made entry entry' cell cell' same = (cc, cc)

pub above_none : (low a : ℕ) → low < a → 0 ≢ a
above_none low a above = omega (arith, above)

pub fixes_quietly : (home : ℕ → ℕ) (m : Map) (log : Log) (fixed : ℕ) → Held home m log → log.fixed ≤ fixed → IsQuiet home log log.cells fixed
fixes_quietly home m log fixed held rises = record {
  stays = λ a cell is. is;
  none_new = λ a cell is. is;
  none = held.none;
  rises = rises;
  made = held.made;
}

pub reserves_quietly : (home : ℕ → ℕ) (m : Map) (log : Log) (a : ℕ) (entry : HistoryEntry) (cell : Cell) → Held home m log → log.cells a ≡ Unborn → cell.previous < a → IsMade home log entry cell
    → IsQuiet home log (set_at log.cells a (Reserved entry cell)) log.fixed
reserves_quietly home m log a entry cell held free below made = record {
  stays = λ b its is. elim (at_one log.cells a (Reserved entry cell) b) [
    | inl here ↦ absurd (not_unborn (log.cells b) its is (ap log.cells here.0 ∙ free))
    | inr else_ ↦ else_.1 ∙ is
  ];
  none_new = λ b its is. elim (at_one log.cells a (Reserved entry cell) b) [
    | inl here ↦ absurd (not_reserved (set_at log.cells a (Reserved entry cell) b) its cell entry is here.1)
    | inr else_ ↦ sym else_.1 ∙ is
  ];
  none = set_else log.cells a (Reserved entry cell) 0 (above_none cell.previous a below) ∙ held.none;
  rises = stays log.fixed;
  made = λ b entry' its is. elim (at_one log.cells a (Reserved entry cell) b) [
    | inl here ↦ let same = same_made entry entry' cell its (sym here.1 ∙ is) in
        (subst (λ c. c.previous < b) same.1 (subst (λ i. cell.previous < i) (sym here.0) below), subst (λ e. IsMade home log e its) same.0 (subst (λ c. IsMade home log entry c) same.1 made))
    | inr else_ ↦ held.made b entry' its (sym else_.1 ∙ is)
  ];
}
  where
    stays : (n : ℕ) → n ≤ n
    stays n = omega arith

drop_is_none : (logged : Logged) (cell other : Cell) (entry : HistoryEntry) → logged ≡ Dropped cell → (logged ≡ Published other → ⊥) × (logged ≡ Reserved entry other → ⊥)
drop_is_none logged cell other entry is = (λ was. grind (arith, is, was), λ was. grind (arith, is, was))

pub drops_quietly : (home : ℕ → ℕ) (m : Map) (log : Log) (a : ℕ) (entry : HistoryEntry) (cell : Cell) → Held home m log → log.cells a ≡ Reserved entry cell
    → IsQuiet home log (set_at log.cells a (Dropped cell)) log.fixed
drops_quietly home m log a entry cell held was = record {
  stays = λ b its is. elim (at_one log.cells a (Dropped cell) b) [
    | inl here ↦ absurd (not_reserved (log.cells b) its cell entry is (ap log.cells here.0 ∙ was))
    | inr else_ ↦ else_.1 ∙ is
  ];
  none_new = λ b its is. elim (at_one log.cells a (Dropped cell) b) [
    | inl here ↦ absurd ((drop_is_none (set_at log.cells a (Dropped cell) b) cell its entry here.1).0 is)
    | inr else_ ↦ sym else_.1 ∙ is
  ];
  none = set_else log.cells a (Dropped cell) 0 (above_none cell.previous a (held.made a entry cell was).0) ∙ held.none;
  rises = stays log.fixed;
  made = λ b entry' its is. elim (at_one log.cells a (Dropped cell) b) [
    | inl here ↦ absurd ((drop_is_none (set_at log.cells a (Dropped cell) b) cell its entry' here.1).1 is)
    | inr else_ ↦ held.made b entry' its (sym else_.1 ∙ is)
  ];
}
  where
    stays : (n : ℕ) → n ≤ n
    stays n = omega arith
