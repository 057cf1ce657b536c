-- `run::encode` meets its contract: the answer's number and tokens, and the hashes of what the call left. Assumes nothing.
use Prim.Native.Nat.{ℕ}
use mathlib.Core.Path.{◌≡◌, sym, ap, ◌∙◌}
use mathlib.Core.List.{List}
use lib.Ieee.{Float}
use lib.ListN.{length}
use Rattle.encoder_settings.specs.declared.EncoderSettings.{EncoderSettings}
use Rattle.encoder_settings.specs.declared.Attention.{Attention}
use Rattle.encoder_run.specs.Answer.{Encoded}
use Rattle.replay.specs.Hash.{float_hash}
use Rattle.encoder_replay.specs.Run.{encoded_as, out_as, scratch_as, answer_from, answer_of}
use Rattle.encoder_replay.proofs.run.encode.Goals as goal

-- an answer a, an output t with its hash h, and a scratch u with its hash k
module _ (p : Attention) (s : EncoderSettings) (gh gw : ℕ) (w cos sin x scratch out : List Float) where
  answered : (t u : List Float) (a : Encoded) (h k : ℕ)
      → a ≡ encoded_as p s gh gw w cos sin x (length out) (length scratch)
      → t ≡ out_as p s gh gw w cos sin x (length scratch) out
      → u ≡ scratch_as p s gh gw w cos sin x (length out) scratch
      → h ≡ float_hash t
      → k ≡ float_hash u
      → answer_from a h k ≡ answer_of p s gh gw w cos sin x scratch out
  unfolding answer_of
  answered t u a h k e f g i j = rw (i, j, f, g, e)

pub returns-in-Ok : goal.returns-in-Ok
returns-in-Ok c =
    ap (λ (a : Encoded). answer_from a c.hash_floats-left.result c.hash_floats-work.result) (sym c.in-Ok.is) ∙
    answered c.args.f c.args.s c.args.gh c.args.gw c.args.weights.now c.args.cos.now c.args.sin.now c.args.patches.now c.args.scratch.now c.args.out.now _ _ c.forward_as-found.result c.hash_floats-left.result c.hash_floats-work.result
    c.forward_as-found.ensures.value c.forward_as-found.ensures.out_after c.forward_as-found.ensures.scratch_after c.hash_floats-left.ensures c.hash_floats-work.ensures

pub returns-in-Err : goal.returns-in-Err
returns-in-Err c =
    ap (λ (n : ℕ). record { number = n; tokens = 0; out = c.hash_floats-left.result; scratch = c.hash_floats-work.result }) c.from.ensures
    ∙ ap (λ (a : Encoded). answer_from a c.hash_floats-left.result c.hash_floats-work.result) (sym c.in-Err.is) ∙
    answered c.args.f c.args.s c.args.gh c.args.gw c.args.weights.now c.args.cos.now c.args.sin.now c.args.patches.now c.args.scratch.now c.args.out.now _ _ c.forward_as-found.result c.hash_floats-left.result c.hash_floats-work.result
    c.forward_as-found.ensures.value c.forward_as-found.ensures.out_after c.forward_as-found.ensures.scratch_after c.hash_floats-left.ensures c.hash_floats-work.ensures
