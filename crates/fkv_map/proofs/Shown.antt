-- What crates above cite: laws of maps and histories as lemmas.
pub use Rattle.fkv_map.proofs.Histories.{content-append, content-push, IsLegal-append, IsLegal-earlier, IsLegal-later, IsLegal-push}
pub use Rattle.fkv_map.proofs.Keys.{get-applied, reply_to_is, entries_of-append, entries_of-kept, value_after-append, AreLegal-earlier, content_by_key, is_content, content_one_more, legal_each, legal_by_key, legal_one_more, reply_of_last, legal_firsts, legal_kept}
pub use Rattle.fkv_map.proofs.KeptEntries.{firsts_by_test, kept-append, kept-push_yes, kept-push_no, kept_again, kept_by_more, kept_at_most, kept_by_same_points, kept_all, count-append, count-push, All-kept}
pub use Rattle.fkv_map.proofs.Whole.{count_kept, count_of_whole, whole_by_count, greatest_serial-push, whole_of_each_once, each_once_none, each_once_more, whole_of_lives, kept_of_lives}
pub use Rattle.fkv_map.proofs.Values.{IsWithin, IsWord, AllValues, IsValue, IsSmall, values_of_history, merged_is_value, merged_fits, reserved_by_test, free_by_test, small_of_history, IsWithin-from_words, free_from_All, free-kept, free-push}
pub use Rattle.fkv_map.proofs.Stored.{key_cmp, map_of, entries-map_of, IsAscending-entries}
