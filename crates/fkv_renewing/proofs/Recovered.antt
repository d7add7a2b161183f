-- An image that tells a renewed slot, and in which its records stand, is the image of a renewed store.
use Rattle.std.proofs.Common.{◌≡◌, ℕ, ◌<◌, ◌≤◌, Bool, true, false, List, [], refl, sym, ◌∙◌, ap, subst, arith}
use Rattle.std.specs.Option.{is_some}
use Rattle.fkv_base.specs.declared.numbers.Addr.{Addr}
use Rattle.fkv_base.specs.declared.numbers.Key.{Key}
use Rattle.fkv_base.specs.declared.numbers.Serial.{Serial}
use Rattle.fkv_base.specs.declared.numbers.Value.{Value}
use Rattle.fkv_base.specs.declared.shapes.Shape.{Shape}
use Rattle.fkv_creating.specs.Long.{IsLong}
use Rattle.fkv_marks.proofs.Shown.{oldest_most}
use Rattle.fkv_newest.specs.declared.newest_slots.Newest.{Newest}
use Rattle.fkv_newest.specs.Newest.{IsNewestOf}
use Rattle.fkv_opening.specs.Faults.{HasCheckpoint, IsSound, log_of}
use Rattle.fkv_opening.specs.Lost.{AreInHand, Extends}
use Rattle.fkv_opening.proofs.Shown.{Apart, same_shape, same_slot, one_log, no_fault}
use Rattle.fkv_pairs.specs.Pairs.{ArePairs}
use Rattle.fkv_record.specs.declared.lost_ranges.LostRange.{LostRange}
use Rattle.fkv_record.specs.declared.manifest_slots.ManifestSlot.{ManifestSlot}
use Rattle.fkv_record.specs.declared.records.Record.{Record}
use Rattle.fkv_scan.specs.Log.{Log}
use Rattle.fkv_scan.specs.Records.{version_of, IsNewer}
use Rattle.fkv_scan.specs.Scanned.{TellsNewer}
use Rattle.fkv_renewing.specs.Images.{AreStored, IsRenewed, IsRenewedSlot}
use Rattle.fkv_renewing.specs.Logs.{IsRenewedLog}
use Rattle.fkv_renewing.specs.Records.{AreRecords}
use Rattle.fkv_renewing.specs.Renewed.{AreSomePairs, IsRenewal}
use Rattle.fkv_renewing.specs.Room.{HasSlots, point_at}
use Rattle.fkv_renewing.proofs.Chained.{at, one, version_one}
use Rattle.fkv_renewing.proofs.Holding.{are_pairs, is_sound}

module _ (apart : Apart) (image : List ℕ) (shape : Shape) (points : List Serial) (pairs : List (Key × Value)) (records : List Record) (n : Newest)
    (renewed : IsRenewed shape points pairs n) (told : IsNewestOf image n) (are : AreRecords shape.bucket_bits pairs records) (stored : AreStored image shape records)
    (slots : HasSlots shape pairs) (long : IsLong image n.shape n.slot) where
  log : Log
  log = log_of image n []

  is_log : IsRenewedLog (log_of image n []) pairs records
  is_log = record {
    version = renewed.slot.number;
    oldest = oldest_most n.shape.class n.slot.checkpoint 1 (omega arith) (omega (arith, renewed.slot.checkpoint));
    begin = renewed.slot.begin;
    start = renewed.slot.first;
    tail = renewed.slot.end;
    lost = renewed.slot.lost;
    triples = refl;
    are_records = subst (λ (s : Shape). AreRecords s.bucket_bits pairs records) (sym renewed.its_shape) are;
    stand = subst (λ (s : Shape). AreStored image s records) (sym renewed.its_shape) stored;
  }

  has_checkpoint : HasCheckpoint image n []
  has_checkpoint = record {
    newest = told;
    stored = record { many = sym renewed.slot.triples; each = λ i x is. absurd (cc) };
    apart = λ i j x y first. absurd (cc);
  }

  sound : IsSound (log_of image n [])
  sound = is_sound apart.records (log_of image n []) pairs records is_log (subst (λ (s : Shape). HasSlots s pairs) (sym renewed.its_shape) slots)

  -- no record is newer than the commit
  none_newer : (c : ℕ) (x : Record) → 1 ≤ c → c < (log_of image n []).tail → IsNewer (log_of image n []) c x → ⊥
  none_newer c x some low newer =
      let is = at apart.records (log_of image n []) pairs records is_log c some low in
      let same : x ≡ is.held = one apart.records (log_of image n []) pairs records is_log c x is.held newer.stands is.stands in
      let version : version_of (log_of image n []) x ≡ 1 =
      version_one apart.records (log_of image n []) pairs records is_log x (ap (λ (y : Record). y.header.version.0) same ∙ is.is.version) in
      omega (arith, version, newer.newer, renewed.slot.number)

  none_lost : (left_out : Bool) (ranges : List LostRange) → TellsNewer (log_of image n []) (log_of image n []).tail left_out → Extends (log_of image n []) left_out ranges → ranges ≡ []
  none_lost true ranges tells extends = absurd (none_newer tells.0 tells.3.0 (omega (arith, tells.1, renewed.slot.first)) tells.2 tells.3.1)
  none_lost false ranges tells extends = extends ∙ renewed.slot.lost

  pub is_renewal : AreSomePairs pairs → IsRenewal shape points pairs image
  is_renewal some = record {
    newest = n;
    is_renewed = renewed;
    told = told;
    long = long;
    faultless = no_fault apart image n [] has_checkpoint sound;
    holds = λ opened store.
        let its = store.checkpoint.newest in
        let slot_is : n.slot ≡ store.newest.slot = same_slot apart image n store.newest told its in
        let slot : IsRenewedSlot shape points pairs store.newest.slot = subst (λ (s : ManifestSlot). IsRenewedSlot shape points pairs s) slot_is renewed.slot in
        let log_is : log_of image store.newest store.triples ≡ log_of image n [] = one_log apart image n store.newest [] store.triples has_checkpoint store.checkpoint in
        let in_hand : AreInHand (log_of image n []) opened.lost.items = subst (λ (l : Log). AreInHand l opened.lost.items) log_is store.lost in
        record {
          its_shape = store.tells.shape ∙ sym (same_shape apart image n store.newest told its) ∙ renewed.its_shape;
          number = store.tells.number ∙ slot.number;
          begin = ap (λ (a : Addr). a.0) store.tells.begin ∙ slot.begin;
          tail = ap (λ (a : Addr). a.0) store.tells.tail ∙ slot.end;
          its_points = λ session. ap (λ (ps : List Serial). point_at ps session) store.tells.points ∙ slot.points session;
          gate_0 = store.tells.gate_0 ∙ ap is_some (its.open_0 ∙ sym told.open_0 ∙ renewed.open_0);
          gate_1 = store.tells.gate_1 ∙ ap is_some (its.open_1 ∙ sym told.open_1 ∙ renewed.open_1);
          checkpoint = store.tells.checkpoint ∙ slot.checkpoint;
          first = ap (λ (a : Addr). a.0) store.tells.first ∙ slot.first;
          triples = store.tells.triples ∙ slot.triples;
          area = store.tells.area ∙ slot.area;
          lost = none_lost in_hand.left_out opened.lost.items in_hand.tells in_hand.extends;
          its_pairs = subst (λ (l : Log). ArePairs l pairs) (sym log_is) (are_pairs apart.records (log_of image n []) pairs records is_log some);
        };
  }
