use Rattle.std.proofs.Common.{List, ℕ, Some, subst}
use Rattle.std.proofs.lemmas.Bool.{iff_false}
use Rattle.fkv_words.specs.Fields.{Reads}
use Rattle.fkv_record.specs.Manifest.{manifest_bytes}
use Rattle.fkv_newest.specs.Heads.{slot_of}
use Rattle.fkv_newest.specs.Newest.{slot_place}
use Rattle.fkv_newest.proofs.Finding.{in_force, shape_here, no_slot, unsuited, none_is, numbers_told}
use Rattle.fkv_newest.proofs.found.newest_in.Goals as goal

pub returns-in_default-read_manifest_slot-clause-err : goal.returns-in_default-read_manifest_slot-clause-err
returns-in_default-read_manifest_slot-clause-err c = λ image is_head.
    let head = c.args.head.now in
    let index = c.in-Some-newer.index in
    let reads : Reads manifest_bytes (Some (slot_of head index)) c.read_manifest_slot.result = subst (λ (b : List ℕ). Reads manifest_bytes (Some b) c.read_manifest_slot.result) c.slot.ensures c.read_manifest_slot.ensures in
    no_slot image head is_head index c.in-Some-newer.ensures.small c.read_manifest_slot.result reads c.in-Some.shape (shape_here image head is_head c.in-Some.shape c.read_shape.result c.read_shape.ensures c.in-Some.is)
    (in_force image head is_head index (numbers_told head c.open_number.result c.open_number-2.result (Some (slot_place index)) c.open_number.ensures c.open_number-2.ensures c.in-Some-newer.ensures.open))
    (none_is c.read_manifest_slot.result c.in_default-read_manifest_slot.not-Some)

pub returns-then-not-suits-clause-err : goal.returns-then-not-suits-clause-err
returns-then-not-suits-clause-err c = λ image is_head.
    let head = c.args.head.now in
    let index = c.in-Some-newer.index in
    let reads : Reads manifest_bytes (Some (slot_of head index)) c.read_manifest_slot.result = subst (λ (b : List ℕ). Reads manifest_bytes (Some b) c.read_manifest_slot.result) c.slot.ensures c.read_manifest_slot.ensures in
    unsuited image head is_head index c.in-Some-newer.ensures.small c.read_manifest_slot.result reads c.in-Some.shape (shape_here image head is_head c.in-Some.shape c.read_shape.result c.read_shape.ensures c.in-Some.is)
    (in_force image head is_head index (numbers_told head c.open_number.result c.open_number-2.result (Some (slot_place index)) c.open_number.ensures c.open_number-2.ensures c.in-Some-newer.ensures.open))
    c.in-Some-read_manifest_slot.format c.in-Some-read_manifest_slot.slot c.in-Some-read_manifest_slot.is (iff_false c.suits.ensures c.if-not-suits.true)
