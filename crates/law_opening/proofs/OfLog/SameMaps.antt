-- Two logs that show the same values are opened with one map.
use Rattle.std.proofs.Common.{◌≡◌, ℕ, Option, Some, None, List, refl, sym, ◌∙◌}
use Rattle.std.specs.FinMap.{get, nat_cmp-IsAntisymmetric, same_map}
use Rattle.std.specs.Prelude.{◌↔◌}
use Rattle.std.proofs.lemmas.Cmp.{nat_cmp_total}
use Rattle.fkv_base.specs.declared.numbers.Key.{Key}
use Rattle.fkv_base.specs.declared.numbers.Value.{Value}
use Rattle.law_paper.specs.Below.fkv_opening.TheOpened.{Opened}
use Rattle.law_log.specs.Ghosts.{shown}
use Rattle.law_refine.specs.Events.GhostEvents.{home_in}
use Rattle.law_opening.specs.Log.Maps.{opening_map}
use Rattle.law_opening.specs.Log.OpeningLog.{opening_log}

-- what has the same values is the same
same_option : (a b : Option ℕ) → ((v : ℕ) → a ≡ Some v → b ≡ Some v) → ((v : ℕ) → b ≡ Some v → a ≡ Some v) → a ≡ b
same_option None None to from = refl
same_option None (Some v) to from = from v refl
same_option (Some v) b to from = sym (to v refl)

module _ (image other : List ℕ) (o : Opened) where
  abbrev home : ℕ → ℕ
  home = home_in o.shape.bucket_bits

  -- each key shows its value in the map of an image, and the value that it has there
  abbrev ShowsMap : List ℕ → Type 0
  ShowsMap bytes = (key : ℕ) → shown home (opening_log bytes o) key ≡ get (opening_map bytes o) key

  abbrev ShowsValues : List ℕ → (Key → Value → Type 0) → Type 0
  ShowsValues bytes Has = (key : Key) (value : Value) → (shown home (opening_log bytes o) key.0 ≡ Some value.0) ↔ Has key value

  pub same_maps : {First Second : Key → Value → Type 0} → ShowsMap image → ShowsMap other → ShowsValues image First → ShowsValues other Second → ((key : Key) (value : Value) → First key value ↔ Second key value) → opening_map other o ≡ opening_map image o
  same_maps one two values its alike = same_map nat_cmp_total nat_cmp-IsAntisymmetric _ _ (λ key.
      let k : Key = record { 0 = key } in
      sym (two key)
      ∙ same_option (shown home (opening_log other o) key) (shown home (opening_log image o) key)
      (λ v has. let value : Value = record { 0 = v } in (values k value).1 ((alike k value).1 ((its k value).0 has)))
      (λ v has. let value : Value = record { 0 = v } in (its k value).1 ((alike k value).0 ((values k value).0 has)))
      ∙ one key)
