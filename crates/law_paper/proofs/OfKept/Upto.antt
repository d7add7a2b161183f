-- Points that split a history by versions keep its prefix up to that version.
use Rattle.std.proofs.Common.{◌≡◌, inl, inr, ℕ, ◌≤◌, ◌∙◌, Bool, true, false, cond, List, [], ◌∷◌, ◌++◌, refl, sym, ap, subst}
use Rattle.std.specs.Prelude.{nat_le}
use Rattle.std.specs.FinMap.{get}
use Rattle.fkv_base.specs.declared.numbers.Serial.{Serial}
use Rattle.fkv_map.specs.declared.history.HistoryEntry.{HistoryEntry}
use Rattle.fkv_map.specs.Map.{Map}
use Rattle.fkv_map.specs.History.{IsLegal, content, kept}
use Rattle.fkv_map.proofs.Shown.{kept-push_yes, kept-push_no}
use Rattle.law_log.specs.Ghosts.{Ghosts}
use Rattle.law_log.specs.Laws.{NewestShowsContent, VersionsAreLegal}
use Rattle.law_log.specs.Trace.{Effect, history_of, upto}
use Rattle.law_paper.specs.Kept.{PointsSplit, KeepsPrefix}

pub kept_is_upto : (points : List Serial) (n : ℕ) (effects : List Effect) → PointsSplit points n effects → kept (history_of effects) points ≡ history_of (upto n effects)
kept_is_upto points n [] split = refl
kept_is_upto points n (effect ∷ before) split = by_test (nat_le effect.version n) refl (kept_is_upto points n before (λ e is. split e (inr is)))
  where
    by_test : (t : Bool) → nat_le effect.version n ≡ t → kept (history_of before) points ≡ history_of (upto n before)
        → kept (history_of before ++ effect.entry ∷ []) points ≡ history_of (cond t (effect ∷ upto n before) (upto n before))
    by_test true is rest = kept-push_yes (history_of before) effect.entry points (split effect (inl refl) ∙ is) ∙ ap (λ (h : List HistoryEntry). h ++ effect.entry ∷ []) rest
    by_test false is rest = kept-push_no (history_of before) effect.entry points (split effect (inl refl) ∙ is) ∙ rest

pub keeps_prefix : (home : ℕ → ℕ) (m : Map) (version : ℕ) (points : List Serial) (n : ℕ) (g : Ghosts) → version ≤ n → NewestShowsContent home m version g → VersionsAreLegal home m version g → PointsSplit points n g.log.history → KeepsPrefix home m points n g
keeps_prefix home m version points n g since shows legal split =
    let same = kept_is_upto points n g.log.history split in
    record {
      legal = subst (IsLegal m) (sym same) (legal n since);
      shows = λ key. shows n key since ∙ ap (λ (h : List HistoryEntry). get (content m h) key) (sym same);
    }
