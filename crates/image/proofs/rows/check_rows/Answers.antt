-- `image::rows::check_rows`: row i's test is passed, and the rows after it are left; or it is not, and is the answer.
-- The check does not see through the closure that names the row.
use Rattle.std.proofs.Common.{◌∙◌, ◌+◌, ap, sym, rules, arith}
use Rattle.std.specs.Prelude.{is_ok}
use Rattle.std.specs.List.{concat}
use Rattle.rules.specs.Job.{Job}
use Rattle.std.proofs.lemmas.Result.{err_from_is_err_and}
use Rattle.image.proofs.RowArrays.{job-row, tested}
use Rattle.image.proofs.Searches.{release_next, rows_on, rows_refused, passed_test, failed_test}
use Rattle.image.specs.Numbering.{row_test}
use Rattle.image.proofs.rows.check_rows.Goals as goal

pub returns-in_err-map_err : goal.returns-in_err-map_err
returns-in_err-map_err c =
    let rows = c.args.rows.now in
    let i = c.loop-i in
    let p = err_from_is_err_and c.from_residual.result c.from_residual.ensures.1 in
    let f = failed_test (i.i + 1) c.check.result c.map_err.result _ c.in_err-map_err.was c.map_err.ensures.cases (λ e y q. search rules) in
    let test = tested rows c.told-rows i.i i.before _ _ _ c.loop-i-test.true i.invariant.before c.from-job.ensures (ap (λ (j : Job). j.name) c.job.view_is) c.named-taken.ensures in
    let fault = sym (ap row_test f.was) ∙ c.check.ensures ∙ test in
    rw (p.1, p.2, f.is) (sym (rows_refused (concat rows) _ i.i f.fault c.loop-i-test.true fault) ∙ i.invariant.left)

pub loop-i-preserved : goal.loop-i-preserved
loop-i-preserved c =
    let rows = c.args.rows.now in
    let i = c.loop-i in
    let test = tested rows c.told-rows i.i i.before _ _ _ c.loop-i-test.true i.invariant.before c.from-job.ensures (ap (λ (j : Job). j.name) c.job.view_is) c.named-taken.ensures in
    let none = sym (passed_test c.check.result (sym c.map_err.ensures.variant ∙ ap is_ok c.in_ok-map_err.was)) ∙ c.check.ensures ∙ test in
    let job = c.job-in-loop-i.view_is ∙ c.from-job.ensures ∙ sym (job-row rows c.told-rows i.i c.loop-i-test.true) in
    let next = ap (λ (j : Job). j.release) job ∙ sym (release_next (concat rows) i.i) in
    -- Not `next` itself, though it is proof enough: so a body that comes to the release in another way is judged by the release.
    record {
      left = sym (rows_on (concat rows) _ i.i c.loop-i-test.true (sym none)) ∙ i.invariant.left;
      before = grind (arith, next);
    }
