use Rattle.std.proofs.Common.{arith, refl}
use Rattle.fkv_renew.proofs.Spelling.{spells_none}
use Rattle.fkv_renew.proofs.sizes.read_sizes.Goals as goal

pub returns-in_err-number_of-clause-none : goal.returns-in_err-number_of-clause-none
returns-in_err-number_of-clause-none c = λ e sizes h. spells_none c.args.words.now 0 _ (c.in_err-number_of.ensures.none refl) (omega (arith, c.in-len7.len_at_least)) sizes.bucket_bits h.bucket_bits

pub returns-in_err-number_of-2-clause-none : goal.returns-in_err-number_of-2-clause-none
returns-in_err-number_of-2-clause-none c = λ e sizes h. spells_none c.args.words.now 1 _ (c.in_err-number_of-2.ensures.none refl) (omega (arith, c.in-len7.len_at_least)) sizes.page h.page

pub returns-in_err-number_of-3-clause-none : goal.returns-in_err-number_of-3-clause-none
returns-in_err-number_of-3-clause-none c = λ e sizes h. spells_none c.args.words.now 2 _ (c.in_err-number_of-3.ensures.none refl) (omega (arith, c.in-len7.len_at_least)) sizes.frames h.frames

pub returns-in_err-number_of-4-clause-none : goal.returns-in_err-number_of-4-clause-none
returns-in_err-number_of-4-clause-none c = λ e sizes h. spells_none c.args.words.now 3 _ (c.in_err-number_of-4.ensures.none refl) (omega (arith, c.in-len7.len_at_least)) sizes.mutable h.mutable

pub returns-in_err-number_of-5-clause-none : goal.returns-in_err-number_of-5-clause-none
returns-in_err-number_of-5-clause-none c = λ e sizes h. spells_none c.args.words.now 4 _ (c.in_err-number_of-5.ensures.none refl) (omega (arith, c.in-len7.len_at_least)) sizes.sessions h.sessions

pub returns-in_err-number_of-6-clause-none : goal.returns-in_err-number_of-6-clause-none
returns-in_err-number_of-6-clause-none c = λ e sizes h. spells_none c.args.words.now 5 _ (c.in_err-number_of-6.ensures.none refl) (omega (arith, c.in-len7.len_at_least)) sizes.overflow h.overflow

pub returns-in_err-number_of-7-clause-none : goal.returns-in_err-number_of-7-clause-none
returns-in_err-number_of-7-clause-none c = λ e sizes h. spells_none c.args.words.now 6 _ (c.in_err-number_of-7.ensures.none refl) (omega (arith, c.in-len7.len_at_least)) sizes.disk_pages h.disk_pages
