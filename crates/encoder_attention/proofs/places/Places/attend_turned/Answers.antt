-- `encoder_attention::places::Places::attend_turned` meets its contract. Assumes nothing.
use mathlib.Core.Path.{sym, ◌∙◌}
use Prim.Native.Nat.{ℕ, ◌*◌}
use native.Mathlib.Nat.{mul_comm}
use Rattle.buffers.specs.Region.{region}
use Rattle.encoder_attention.specs.inner.Keys.{keys_of}
use Rattle.encoder_attention.specs.inner.Fits.{TurnFits, HeadsFit}
use Rattle.encoder_attention.proofs.Attends.{length-attention}
use Rattle.encoder_attention.proofs.Keys.{turned-back}
use Rattle.encoder_attention.proofs.Rooms.{heads-fit}
use Rattle.encoder_attention.proofs.places.Places.attend_turned.Goals as goal

-- the keys turned the other way
backward : {len q k v g out t heads hd : ℕ} → HeadsFit len q k v g out t heads hd → TurnFits len k g (heads * hd) t
backward {len} {q} {k} {v} {g} {out} {t} {heads} {hd} w =
    let e = mul_comm (heads * hd) t in
    record { k_in = rw e w.k_in; kt_in = rw e w.g_in; apart = rw e w.kg }

pub attend_heads-ok-requires : goal.attend_heads-ok-requires
attend_heads-ok-requires c = heads-fit c.requires.0 (sym c.spare.ensures ∙ c.if-spare.true)

pub turn_keys-requires : goal.turn_keys-requires
turn_keys-requires c = rw c.attend_heads-ok.auto.s (backward (heads-fit c.requires.0 (sym c.spare.ensures ∙ c.if-spare.true)))

pub shape_of-s-then-spare : goal.shape_of-s-then-spare
shape_of-s-then-spare c = c.turn_keys.auto.s ∙ c.attend_heads-ok.auto.s

pub returns-then-spare : goal.returns-then-spare
returns-then-spare c =
    let n = c.args.self.t * (c.args.self.heads * c.args.self.hd) in
    let f = heads-fit c.requires.0 (sym c.spare.ensures ∙ c.if-spare.true) in record {
      value = c.attend_heads-ok.ensures.value;
      s_after = turned-back c.args.s.now c.attend_heads-ok.new.s c.turn_keys.new.s c.args.self.q c.args.k c.args.self.v c.args.self.k c.args.self.row c.args.self.out c.args.self.t c.args.self.heads c.args.self.hd c.requires.0 f.outg c.requires.1 c.turn_keys.ensures _
          (length-attention c.args.self.t c.args.self.heads c.args.self.hd c.args.self.scaling (region c.args.s.now c.args.self.q n) (keys_of c.args.self.t (c.args.self.heads * c.args.self.hd) (region c.args.s.now c.args.self.k n)) (region c.args.s.now c.args.self.v n)) c.attend_heads-ok.ensures.s_after;
    }

pub attend_tokens-requires : goal.attend_tokens-requires
attend_tokens-requires c = c.requires.0.turned

pub shape_of-s : goal.shape_of-s
shape_of-s c = c.attend_tokens.auto.s

pub returns : goal.returns
returns c = record {
  value = c.attend_tokens.ensures.value;
  s_after = c.attend_tokens.ensures.s_after;
}
