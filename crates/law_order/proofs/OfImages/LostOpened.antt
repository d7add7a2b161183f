-- The lost ranges with which a store was opened lie in the opened log, one behind the other.
use Rattle.std.proofs.Common.{◌≡◌, ℕ, ◌+◌, ◌<◌, ◌≤◌, arith, sym, ap, subst, Bool, true, false, List, [], ◌∷◌, ◌++◌, get_or, All, AllPairs}
use Rattle.std.proofs.lemmas.List.Elements.{All-push, All-weaker}
use Rattle.std.proofs.lemmas.List.Quantifiers.{all_pairs_push}
use Rattle.fkv_base.specs.declared.numbers.Addr.{Addr}
use Rattle.law_opening.specs.Below.fkv_newest.Manifest.{Follows, IsLostIn}
use Rattle.law_opening.specs.Below.fkv_opening.Lost.{AreInHand, Extends}
use Rattle.law_opening.specs.Below.fkv_opening.Opened.{IsStoreOf}
use Rattle.law_opening.specs.Below.fkv_opening.TheOpened.{Opened}
use Rattle.fkv_record.specs.declared.lost_ranges.LostRange.{LostRange}
use Rattle.fkv_record.specs.declared.manifest_slots.ManifestSlot.{ManifestSlot}
use Rattle.law_opening.specs.Below.fkv_pairs.Pairs.{log_of_store}
use Rattle.law_opening.specs.Below.fkv_scan.Scanned.{TellsNewer}

pub record IsLostOpened (o : Opened) (r : LostRange) : Type 0 where
  pub some : o.checkpoint.first.0 < r.to.0
  pub in_log : r.to.0 ≤ o.tail.0
  pub after_checkpoint : o.checkpoint.number.0 < r.version.0
  pub no_newer : r.version.0 ≤ o.number.0 + 1

-- all of them are so, and their versions rise
pub record AreLostOpened (o : Opened) (ranges : List LostRange) : Type 0 where
  pub each : All (λ (r : LostRange). IsLostOpened o r) ranges
  pub rising : AllPairs Follows ranges

module _ (bytes : List ℕ) (o : Opened) (store : IsStoreOf bytes o) where
  abbrev slot : ManifestSlot
  slot = (let n = store.newest in n.slot)

  abbrev ranges : List LostRange
  ranges = slot.lost.ranges.items

  first_is : o.checkpoint.first.0 ≡ slot.first.0
  first_is = ap (λ (a : Addr). a.0) store.tells.first

  tail_is : o.tail.0 ≡ slot.end.0
  tail_is = ap (λ (a : Addr). a.0) store.tells.tail

  slot_range : (r : LostRange) → IsLostIn slot r → IsLostOpened o r
  slot_range r is =
      let first = first_is in
      let tail = tail_is in
      let number = store.tells.number in
      let checkpoint = store.tells.checkpoint in
      let a = is.some in
      let b = is.in_log in
      let d = is.after_checkpoint in
      let e = is.no_newer in
      record { some = omega (arith, first, a); in_log = omega (arith, tail, b); after_checkpoint = omega (arith, checkpoint, d); no_newer = omega (arith, number, e) }

  of_slot : AreLostOpened o ranges
  of_slot =
      let lost = store.checkpoint.newest.manifest.suits.lost in
      record { each = All-weaker (IsLostIn slot) (λ (r : LostRange). IsLostOpened o r) slot_range ranges lost.each; rising = lost.rising }

  -- and one more behind them
  added_range : (added : LostRange) → added.to.0 ≡ slot.end.0 → added.version.0 ≡ slot.number + 1 → TellsNewer (log_of_store bytes o store) slot.end.0 true → IsLostOpened o added
  added_range added to version tells =
      let first = first_is in
      let tail = tail_is in
      let number = store.tells.number in
      let older = o.no_newer in
      let from = tells.1 in
      let below = tells.2 in
      record { some = omega (arith, first, to, from, below); in_log = omega (arith, tail, to); after_checkpoint = omega (arith, version, number, older); no_newer = omega (arith, version, number) }

  of_more : (added : LostRange) → added.to.0 ≡ slot.end.0 → added.version.0 ≡ slot.number + 1 → TellsNewer (log_of_store bytes o store) slot.end.0 true → AreLostOpened o (ranges ++ added ∷ [])
  of_more added to version tells =
      let lost = store.checkpoint.newest.manifest.suits.lost in
      record {
        each = All-push (λ (r : LostRange). IsLostOpened o r) ranges added of_slot.each (added_range added to version tells);
        rising = all_pairs_push Follows ranges added lost.rising (λ k d low. (let is : IsLostIn slot (get_or ranges k d) = lost.each k d low in
            let a = is.no_newer in
            let b = is.in_log in
            record { newer = omega (arith, a, version); no_lower = omega (arith, b, to) }));
      }

  in_hand : (left : AreInHand (log_of_store bytes o store) o.lost.items) → AreLostOpened o o.lost.items
  in_hand left = by_left left.left_out left.tells left.extends
    where
      by_left : (left_out : Bool) → TellsNewer (log_of_store bytes o store) slot.end.0 left_out → Extends (log_of_store bytes o store) left_out o.lost.items → AreLostOpened o o.lost.items
      by_left false tells same = subst (λ (x : List LostRange). AreLostOpened o x) (sym same) of_slot
      by_left true tells more = subst (λ (x : List LostRange). AreLostOpened o x) (sym more.3) (of_more more.0 more.1 more.2 tells)

  pub opened_lost : AreLostOpened o o.lost.items
  opened_lost = in_hand store.lost
