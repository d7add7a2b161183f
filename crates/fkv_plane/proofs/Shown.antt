-- What crates above may cite.
pub use Rattle.fkv_plane.proofs.AsksPassed.{passed_words, passed_reply, passed_done, done_words, done_or_asks}
pub use Rattle.fkv_plane.proofs.Sums.{never, none, done_left, none_left, some_inside, some_sum, passed_left, passed_alone, sum_most, sum_whole, inside_fewer, behind_fewer}
