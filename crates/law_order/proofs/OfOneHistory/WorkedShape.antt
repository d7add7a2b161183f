-- The shape of the worked lives, and where their words lie.
use Rattle.std.proofs.Common.{refl, arith}
use Rattle.std.proofs.lemmas.Nat.{and_mask}
use Rattle.fkv_base.specs.declared.classes.StoreClass.TheVariants.{Specified}
use Rattle.fkv_base.specs.declared.shapes.Shape.{Shape}
use Rattle.fkv_plane.specs.declared.places.Places.{Places}

unfoldable pub shape : Shape
unfolding lib.Count.ones
shape = record { class = Specified; bucket_bits = 0; page = 4; frames = 2; mutable = 1; sessions = 2; overflow = 0; disk_pages = 64; limits = record { few_buckets = omega arith; page_size = refl; ring_size = refl; some_mutable = omega arith; some_read_only = omega arith; some_session = omega arith; few_sessions = omega arith; few_overflow = omega arith; some_disk = omega arith; few_disk = omega arith }; of_its_class = λ _. record { small_buckets = omega arith; small_pages = omega arith; small_ring = omega arith; small_chains = omega arith; small_disk = omega arith } }

unfoldable pub places : Places
places = record { sessions = 2; buckets = 1; overflow = 0; ring = 8; ring_mask = 7; few_sessions = omega arith; few_buckets = omega arith; few_overflow = omega arith; some_ring = omega arith; masks = λ a. and_mask a 3; small_ring = omega arith }
