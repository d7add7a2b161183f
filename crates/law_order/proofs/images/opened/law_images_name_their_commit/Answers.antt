-- The law, by the block of the shape and what the slot's bytes spell.
use Rattle.std.proofs.Common.{refl, sym, ap, ◌∙◌, List, ℕ}
use Rattle.std.specs.Prelude.{Some}
use Rattle.fkv_record.proofs.Shown.{newest_spelled}
use Rattle.law_order.proofs.images.opened.law_images_name_their_commit.Goals as goal

pub returns : goal.returns
returns c = λ o n bytes events image index slot suits store begins long left its. record {
  block = c.law_images_keep_their_shape.ensures o n bytes events image store begins long left;
  in_force = its.in_force;
  manifest = record { stands = sym (newest_spelled slot) ∙ ap (λ (x : List ℕ). Some x) (sym its.bytes); suits = suits };
  open_0 = refl;
  open_1 = refl;
}
