use Rattle.std.proofs.Common.{◌∙◌, refl, sym, rules}
use Rattle.fkv_base.specs.declared.classes.StoreClass.TheVariants.{Specified, Living}
use Rattle.fkv_record.proofs.Spelling.{numbered_reads}
use Rattle.fkv_record.proofs.ShapeApart.{shape_numbered, shape_read, shape_none}
use Rattle.fkv_record.proofs.shape_bytes.read_shape.Goals as goal

pub returns-then-text-from_le_bytes : goal.returns-then-text-from_le_bytes
returns-then-text-from_le_bytes c =
    rw c.ok.ensures.value (numbered_reads shape_numbered c.args.bytes.now c.numbers.result (search rules) c.numbers.ensures.words c.numbers.ensures.same _
    (shape_read Specified c.numbers.result c.new.result (search rules) (c.if-text-from_le_bytes.true ∙ c.from_le_bytes.ensures) (λ sizes small. c.new.ensures.accepted.1 (sizes, small refl)) c.new.ensures.class
    c.new.ensures.bucket_bits c.new.ensures.page c.new.ensures.frames c.new.ensures.mutable c.new.ensures.sessions c.new.ensures.overflow c.new.ensures.disk_pages))

pub returns-then-text-from_le_bytes-2 : goal.returns-then-text-from_le_bytes-2
returns-then-text-from_le_bytes-2 c =
    rw c.ok-then-text-from_le_bytes-2.ensures.value (numbered_reads shape_numbered c.args.bytes.now c.numbers.result (search rules) c.numbers.ensures.words c.numbers.ensures.same _
    (shape_read Living c.numbers.result c.large.result (search rules) (c.if-text-from_le_bytes-2.true ∙ c.from_le_bytes-2.ensures) (λ sizes small. c.large.ensures.accepted.1 sizes) c.large.ensures.class
    c.large.ensures.bucket_bits c.large.ensures.page c.large.ensures.frames c.large.ensures.mutable c.large.ensures.sessions c.large.ensures.overflow c.large.ensures.disk_pages))

pub returns : goal.returns
returns c =
    numbered_reads shape_numbered c.args.bytes.now c.numbers.result (search rules) c.numbers.ensures.words c.numbers.ensures.same _
    (shape_none c.numbers.result (search rules) (λ e. c.if-text-from_le_bytes.false (e ∙ sym c.from_le_bytes.ensures)) (λ e. c.if-text-from_le_bytes-2.false (e ∙ sym c.from_le_bytes-2.ensures)))
