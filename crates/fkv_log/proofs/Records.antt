-- The three words of a record.
use Rattle.std.proofs.Common.{◌≡◌, ◌<◌, refl, arith}
use Rattle.fkv_plane.specs.declared.places.RecordWord.{RecordWord}
use Rattle.fkv_plane.specs.declared.places.RecordWord.TheVariants.{Header, Key, Value}
use Rattle.fkv_plane.specs.Places.{record_number}

pub three_words : (w : RecordWord) → record_number w < 3
three_words Header = omega arith
three_words Key = omega arith
three_words Value = omega arith

pub same_word : (v w : RecordWord) → record_number v ≡ record_number w → v ≡ w
same_word Header Header e = refl
same_word Header Key e = cc
same_word Header Value e = cc
same_word Key Header e = cc
same_word Key Key e = refl
same_word Key Value e = cc
same_word Value Header e = cc
same_word Value Key e = cc
same_word Value Value e = refl
