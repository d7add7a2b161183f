-- Records of open addresses.
use Rattle.std.proofs.Common.{◌≡◌, ◌+◌, ◌*◌, ◌%◌, arith, ap}
use Rattle.fkv_frames.specs.Pages.{place_of}
use Rattle.fkv_plane.specs.Places.{frames_start, record_number}
use Rattle.fkv_log.proofs.Records.{three_words, same_word}
use Rattle.fkv_log.proofs.laws.law_records_of_open_pages.Goals as goal

pub returns-clause-apart : goal.returns-clause-apart
returns-clause-apart c = λ shape places limit a b v w ring here there e.
    let first : 3 * (a % places.ring) ≡ place_of shape a = ap (λ x. 3 * (a % x)) ring in
    let second : 3 * (b % places.ring) ≡ place_of shape b = ap (λ x. 3 * (b % x)) ring in
    let same : place_of shape a + record_number v ≡ place_of shape b + record_number w = omega (arith, first, second, e) in
    let both = c.law_places_of_open_pages.ensures.apart shape limit a b (record_number v) (record_number w) here there (three_words v) (three_words w) same in
    (both.0, same_word v w both.1)

pub returns-clause-in_frames : goal.returns-clause-in_frames
returns-clause-in_frames c = λ shape places addr word ring.
    ap (λ x. frames_start places + 3 * (addr % x) + record_number word) ring
