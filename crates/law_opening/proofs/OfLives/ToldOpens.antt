-- The keeper of an opened store is told the truth of the bytes that it was opened from.
use Rattle.std.proofs.Common.{◌≡◌, ◌∙◌, ap, sym, refl, subst, arith, ℕ, zero, suc, ◌+◌, ◌*◌, ◌%◌, ◌^◌, ◌<◌, ◌≤◌, List, length, Some}
use Rattle.std.specs.Prelude.{◌==◌, if◌then◌else◌}
use Rattle.std.specs.Option.{is_some}
use Rattle.fkv_base.specs.declared.shapes.Shape.{Shape}
use Rattle.fkv_core.specs.Openings.{newest_commit}
use Rattle.fkv_disk.specs.Bytes.{byte_at}
use Rattle.law_refine.specs.Below.fkv_keeper.Keeping.{Finality}
use Rattle.law_refine.specs.Below.fkv_keeper.LastCommits.{slot_place}
use Rattle.law_refine.specs.Below.fkv_manifest.Gating.{open_gate}
use Rattle.law_refine.specs.Below.fkv_manifest.Newest.{newest, slot_in}
use Rattle.law_paper.specs.Below.fkv_newest.Newest.{IsNewestOf}
use Rattle.law_paper.specs.Below.fkv_newest.Newest as told
use Rattle.law_paper.specs.Below.fkv_newest.TheNewest.{Newest}
use Rattle.law_paper.specs.Below.fkv_opening.Opened.{IsStoreOf, Tells}
use Rattle.law_paper.specs.Below.fkv_opening.TheOpened.{Opened}
use Rattle.fkv_record.specs.Places.{most_triples, number_at}
use Rattle.law_refine.specs.Below.law_world.Standing.Opening.{IsBehind, IsToldBy}
use Rattle.law_refine.specs.Below.fkv_world.World.{Now}
use Rattle.law_opening.specs.Lives.OpenedFrom.{IsOpenedFrom}
use Rattle.law_opening.proofs.OfLives.GuardOpens.{its_keeper_opens}
use Rattle.law_opening.proofs.OfLives.SlotNamed.{gate_told, slot_named}

place_in_turn : (m : ℕ) → m < 2 → (if m == 0 then 512 else 1024) ≡ 512 + 512 * m
place_in_turn zero low = refl
place_in_turn (suc zero) low = refl
place_in_turn (suc (suc m)) low = absurd (omega (arith, low))

module _ (bytes : List ℕ) (o : Opened) (store : IsStoreOf bytes o) where
  its : Newest
  its = store.newest

  its_newest : IsNewestOf bytes its
  unfolding its
  its_newest = store.checkpoint.newest

  tells : Tells its o
  unfolding its
  tells = store.tells

  -- the slot of the newest commit is where its number says
  place_told : slot_place o.number ≡ told.slot_place its.index
  place_told =
      let number = tells.number in
      let parity = its_newest.manifest.suits.number.parity in
      place_in_turn (o.number.0 % 2) (omega arith) ∙ ap (λ (k : ℕ). 512 + 512 * k) (ap (λ (k : ℕ). k % 2) number ∙ parity)

  in_force : newest bytes ≡ Some (slot_place o.number)
  in_force = its_newest.in_force ∙ ap (λ (place : ℕ). Some place) (sym place_told)

  named : number_at (slot_in bytes (slot_place o.number)) 8 ≡ o.number.0
  named =
      ap (λ (place : ℕ). number_at (slot_in bytes place) 8) place_told
      ∙ slot_named its.format its.slot (slot_in bytes (told.slot_place its.index)) its_newest.manifest.stands
      ∙ sym tells.number

  first_gate : (byte_at bytes 512 == open_gate) ≡ o.gates.0
  first_gate = sym (tells.gate_0 ∙ ap is_some its_newest.open_0 ∙ gate_told bytes 512)

  second_gate : (byte_at bytes 1024 == open_gate) ≡ o.gates.1
  second_gate = sym (tells.gate_1 ∙ ap is_some its_newest.open_1 ∙ gate_told bytes 1024)

-- what the keeper is told, of the commit that it has
module _ (bytes : List ℕ) (o : Opened) (n : Now) (from : IsOpenedFrom bytes o n) where
  last : newest_commit o ≡ n.keeper.last
  last = sym from.world.its_keeper.newest

  same_shape : o.shape ≡ n.shape
  same_shape = sym from.world.its_shape

  triples_fit : n.keeper.last.checkpoint.triples ≤ most_triples n.shape
  triples_fit =
      subst (λ (shape : Shape). n.keeper.last.checkpoint.triples ≤ most_triples shape) same_shape
      (subst (λ (its : Finality). its.checkpoint.triples ≤ most_triples o.shape) last o.few_triples)

  long : IsBehind n.shape n.keeper.last.checkpoint (length bytes)
  long =
      subst (λ (shape : Shape). IsBehind shape n.keeper.last.checkpoint (length bytes)) same_shape
      (subst (λ (its : Finality). IsBehind o.shape its.checkpoint (length bytes)) last from.long)

  pub told_opens : IsToldBy n.shape n.places bytes n.keeper
  told_opens =
      let store = from.store in
      let places = from.world.its_places in
      record {
        is_opened = its_keeper_opens o n from.world;
        in_force = subst (λ (its : Finality). newest bytes ≡ Some (slot_place its.number)) last (in_force bytes o store);
        named = subst (λ (its : Finality). number_at (slot_in bytes (slot_place its.number)) 8 ≡ its.number.0) last (named bytes o store);
        first_gate = first_gate bytes o store ∙ ap (λ (its : Finality). its.gates.0) last;
        second_gate = second_gate bytes o store ∙ ap (λ (its : Finality). its.gates.1) last;
        triples_fit = triples_fit;
        long = long;
        no_copy = from.world.its_keeper.no_copy;
        buckets = places.buckets ∙ ap (λ (shape : Shape). 2 ^ shape.bucket_bits) same_shape;
        overflow = places.overflow ∙ ap (λ (shape : Shape). shape.overflow) same_shape;
      }
