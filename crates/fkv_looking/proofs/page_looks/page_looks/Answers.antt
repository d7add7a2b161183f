use Rattle.std.proofs.Common.{◌≡◌, sym, subst, arith, ◌+◌, ◌++◌, ◌∷◌, []}
use Rattle.fkv_disk.proofs.Shown.{more_reads, quiet_on, quiet_still, no_read}
use Rattle.fkv_looking.specs.Pages.{IsPageLook}
use Rattle.fkv_looking.proofs.Listing.{AreSome, no_pages, pages_more}
use Rattle.fkv_looking.proofs.page_looks.page_looks.Goals as goal

pub loop-page-init : goal.loop-page-init
loop-page-init g c = record {
  quiet = quiet_still g.D.Device.honest g.D.Device.seen g.D.Device.may_leave g.D.Device.moment g.D.Device.left_since g.D.Device.failed c.args.d.now;
  reads = no_read g.D.Device.refuses g.D.Device.expects c.args.d.now;
  found = λ claim. subst (λ pages. AreSome (g.D.Device.seen c.args.d.now) c.args.opened.now 0 pages) (sym c.new-pages.ensures.items)
      (no_pages (g.D.Device.seen c.args.d.now) c.args.opened.now);
}

pub loop-page-preserved : goal.loop-page-preserved
loop-page-preserved g c =
    let quiet = c.loop-page.invariant.quiet in
    let pushed : c.push.new.self.items ≡ c.loop-page.pages.items ++ c.in_ok-found.found ∷ [] = c.in_ok-push.ensures.items in
    record {
      quiet = quiet_on g.D.Device.honest g.D.Device.seen g.D.Device.may_leave g.D.Device.moment g.D.Device.left_since g.D.Device.failed c.args.d.now c.loop-page.d c.page_look.new.d quiet c.in_ok-found.ensures.quiet;
      reads = more_reads g.D.Device.refuses g.D.Device.expects c.args.d.now c.loop-page.d c.page_look.new.d c.loop-page.invariant.reads c.in_ok-found.ensures.reads;
      found = λ claim.
          let here = subst (λ image. IsPageLook image c.args.opened.now c.loop-page.page c.in_ok-found.found) (quiet.same_bytes claim) (c.in_ok-found.ensures.ok (quiet.premise.0 claim)) in
          subst (λ pages. AreSome (g.D.Device.seen c.args.d.now) c.args.opened.now (c.loop-page.page + 1) pages) (sym pushed)
          (pages_more (g.D.Device.seen c.args.d.now) c.args.opened.now c.loop-page.page c.loop-page.pages.items c.in_ok-found.found (c.loop-page.invariant.found claim) here);
    }

pub returns-clause-ok : goal.returns-clause-ok
returns-clause-ok g c = λ claim. record {
  many = (let many = (c.loop-page.invariant.found claim).many in let last = c.loop-page-test.false in let most = c.loop-page.auto.page-end in omega (arith, many, last, most));
  each = (c.loop-page.invariant.found claim).each;
}

pub returns-in_err-found-clause-reads : goal.returns-in_err-found-clause-reads
returns-in_err-found-clause-reads g c =
    more_reads g.D.Device.refuses g.D.Device.expects c.args.d.now c.loop-page.d c.page_look.new.d c.loop-page.invariant.reads c.page_look.ensures.reads

pub returns-in_err-push-clause-reads : goal.returns-in_err-push-clause-reads
returns-in_err-push-clause-reads g c =
    more_reads g.D.Device.refuses g.D.Device.expects c.args.d.now c.loop-page.d c.page_look.new.d c.loop-page.invariant.reads c.in_ok-found.ensures.reads
