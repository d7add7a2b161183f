-- The map of a store whose values are those of a log up to a version.
use Rattle.std.proofs.Common.{◌≡◌, ℕ, Option, Some, None, List, refl, sym, ◌∙◌}
use Rattle.std.specs.Prelude.{◌↔◌}
use Rattle.std.specs.FinMap.{nat_cmp-IsAntisymmetric, same_map}
use Rattle.std.proofs.lemmas.Cmp.{nat_cmp_total}
use Rattle.fkv_base.specs.declared.numbers.Key.{Key}
use Rattle.fkv_base.specs.declared.numbers.Value.{Value}
use Rattle.fkv_map.specs.History.{content, kept}
use Rattle.fkv_map.specs.Map.{Map}
use Rattle.law_opening.specs.Below.fkv_newest.TheNewest.{Newest}
use Rattle.law_opening.specs.Below.fkv_opening.Opened.{IsStoreOf}
use Rattle.law_opening.specs.Below.fkv_opening.TheOpened.{Opened}
use Rattle.law_opening.specs.Below.fkv_pairs.Pairs.{log_of_store, HasValue}
use Rattle.law_log.specs.Ghosts.{Ghosts, shown}
use Rattle.law_log.specs.Enabled.{IsOpened}
use Rattle.law_log.specs.Trace.{history_of}
use Rattle.law_opening.specs.Log.Maps.{opening_map}
use Rattle.law_opening.specs.Log.OpeningLog.{opening_ghosts, opening_log}
use Rattle.law_commit.specs.Below.law_paper.Kept.{KeepsPrefix}
use Rattle.law_commit.specs.Below.law_paper.Paper.Named.{IsOfCommit}
use Rattle.law_commit.specs.Below.law_refine.Events.GhostEvents.{home_in}

same_values : (a b : Option ℕ) → ((v : ℕ) → (a ≡ Some v) ↔ (b ≡ Some v)) → a ≡ b
same_values None None same = refl
same_values (Some v) b same = sym ((same v).0 refl)
same_values None (Some v) same = (same v).1 refl

pub joined : (home : ℕ → ℕ) (image : List ℕ) (n : Newest) (r : Opened) (store : IsStoreOf image r) (m : Map) (g : Ghosts)
    → ((key : Key) (value : Value) → (shown (home_in r.shape.bucket_bits) (opening_log image r) key.0 ≡ Some value.0) ↔ HasValue (log_of_store image r store) key value)
    → IsOpened (home_in r.shape.bucket_bits) (opening_map image r) r.number.0 (opening_ghosts image r)
    → IsOfCommit home image n g.log r store → KeepsPrefix home m r.points.items n.slot.number g
    → opening_map image r ≡ content m (kept (history_of g.log.history) r.points.items)
joined home image n r store m g values opened is keeps = same_map nat_cmp_total nat_cmp-IsAntisymmetric _ _ (λ key.
    sym (opened.shows key)
    ∙ same_values _ _ (λ v. (
      λ its. (is.values (record { 0 = key }) (record { 0 = v })).1 ((values (record { 0 = key }) (record { 0 = v })).0 its),
      λ its. (values (record { 0 = key }) (record { 0 = v })).1 ((is.values (record { 0 = key }) (record { 0 = v })).0 its),
    ))
    ∙ keeps.shows key)
