-- `encoder_run::form::forward_by` meets its contract. Assumes nothing.
use mathlib.Core.Path.{sym, ap, ◌∙◌}
use Prim.Native.Nat.{◌*◌}
use lib.ListN.{length}
use Rattle.std.proofs.lemmas.Result.{err_from_is_err_and}
use Rattle.encoder_settings.proofs.Accepted.{accepted-says}
use Rattle.encoder_settings.specs.Settings.{accepted, tables_fit, lengths_fit, checked_by}
use Rattle.encoder_blocks.specs.Tables.{cos_by, sin_by}
use Rattle.encoder_run.specs.Stages.{sizes_of}
use Rattle.encoder_run.specs.Answer.{encoded_by, out_by, scratch_by}
use Rattle.encoder_run.specs.inner.Forms.{run_by}
use Rattle.encoder_run.proofs.Ready.{run_fits, run_is}
use Rattle.encoder_run.proofs.form.forward_by.Goals as goal

pub run-requires : goal.run-requires
run-requires c =
    let t = c.in_ok-a.a.tokens in
    let o = c.in_ok-a.a.count in
    let e = sym (c.checked.ensures ∙ ap (λ l. checked_by c.args.f c.args.s c.args.grid_h c.args.grid_w (length c.args.patches.now) (length c.args.weights.now) (lengths_fit c.args.s l) (length c.args.out.now) (length c.args.scratch.now)) c.lengths.ensures) ∙ c.in_ok-a.was in
    let y = accepted-says c.args.f c.args.s (length c.args.weights.now) (tables_fit c.args.s c.args.tables) (length c.args.out.now) (length c.args.scratch.now) c.args.grid_h c.args.grid_w (length c.args.patches.now) t o e in
    let f = run_fits c.args.f c.args.s c.args.grid_h c.args.grid_w (length c.args.patches.now) (length c.args.weights.now) c.args.tables (length c.args.out.now) (length c.args.scratch.now) t o y.0 y.1 in record {
      bound = y.0.bounds.patch-low;
      run_fits = f;
      text_hidden_size_in_bounds = y.1.out-holds;
    }

pub returns : goal.returns
returns c =
    let t = c.in_ok-a.a.tokens in
    let o = c.in_ok-a.a.count in
    let e = sym (c.checked.ensures ∙ ap (λ l. checked_by c.args.f c.args.s c.args.grid_h c.args.grid_w (length c.args.patches.now) (length c.args.weights.now) (lengths_fit c.args.s l) (length c.args.out.now) (length c.args.scratch.now)) c.lengths.ensures) ∙ c.in_ok-a.was in
    let y = accepted-says c.args.f c.args.s (length c.args.weights.now) (tables_fit c.args.s c.args.tables) (length c.args.out.now) (length c.args.scratch.now) c.args.grid_h c.args.grid_w (length c.args.patches.now) t o e in
    let R = run_by c.args.s c.args.grid_h c.args.grid_w c.args.weights.now c.args.tables c.args.patches.now in
    let z = sizes_of c.args.s (c.args.grid_h * c.args.grid_w) c.args.grid_w in
    let C = cos_by z c.args.tables in
    let S = sin_by z c.args.tables in
    let f = run_is c.args.f c.args.s c.args.grid_h c.args.grid_w (length c.args.patches.now) (length c.args.weights.now) c.args.tables (length c.args.out.now) (length c.args.scratch.now) t o y.0 y.1 c.args.weights.now C S c.args.patches.now in record {
      answer = c.run.ensures.value ∙ ap (encoded_by (accepted t o)) f ∙ ap (λ k. encoded_by k R) (sym e);
      output = c.run.ensures.out_after ∙ ap (λ v. out_by (accepted t o) v c.args.out.now) f ∙ ap (λ k. out_by k R c.args.out.now) (sym e);
      work = c.run.ensures.scratch_after ∙ ap (λ k. scratch_by k c.args.scratch.now) (sym e);
    }

pub returns-in_err-a : goal.returns-in_err-a
returns-in_err-a c =
    let R = run_by c.args.s c.args.grid_h c.args.grid_w c.args.weights.now c.args.tables c.args.patches.now in
    let p = err_from_is_err_and c.from_residual.result c.from_residual.ensures.1 in
    let e = sym (c.checked.ensures ∙ ap (λ l. checked_by c.args.f c.args.s c.args.grid_h c.args.grid_w (length c.args.patches.now) (length c.args.weights.now) (lengths_fit c.args.s l) (length c.args.out.now) (length c.args.scratch.now)) c.lengths.ensures) ∙ c.in_err-a.was in record {
      answer = rw (p.1, p.2) (ap (λ k. encoded_by k R) (sym e));
      output = ap (λ k. out_by k R c.args.out.now) (sym e);
      work = ap (λ k. scratch_by k c.args.scratch.now) (sym e);
    }
