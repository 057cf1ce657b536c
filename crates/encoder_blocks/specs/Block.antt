-- The encoder's blocks, stage by stage. Assumes nothing.
use Rattle.std.specs.Prelude.{List, [], ◌∷◌, ℕ, ◌*◌, ◌/◌, zero, suc, Float}
use Prim.Native.String.{String}
use Rattle.encoder_settings.specs.Weights.{Table, layer, part, nth_layer}
use Rattle.encoder_blocks.specs.declared.Sizes.{Sizes}
use Rattle.encoder_linear.specs.Linear.{linear_of}
use Rattle.encoder_elements.specs.Element.{added, gated, rounded}
use Rattle.encoder_kernels.specs.Kernels.{norm_of}
use Rattle.encoder_rotation.specs.Rotate.{rotate_of}
use Rattle.encoder_attention.specs.Attention.{scores_of, attention_of}
use Rattle.encoder_steps.specs.Run.{Run, examined, then_run, went}

-- ---- what follows from a call's sizes

-- the floats of all tokens, and of all their intermediate rows
abbrev pub n_of : Sizes → ℕ
n_of z = z.tokens * z.hidden

abbrev pub m_of : Sizes → ℕ
m_of z = z.tokens * z.inter

-- the parts of a layer's weights
abbrev pub parts_of : Sizes → Table
parts_of z = layer z.hidden z.inter

-- ---- one block

-- a norm of the tokens, by the part of that name of the layer's weights w
unfoldable pub normed : Sizes → String → List Float → List Float → List Float
normed z name w h = norm_of z.tokens z.hidden (part (parts_of z) name w) h

-- linear layers of the tokens: to the same size, to the intermediate size, and from it
unfoldable pub square_of : Sizes → String → List Float → List Float → List Float
square_of z name w x = linear_of z.tokens z.hidden z.hidden (part (parts_of z) name w) x

unfoldable pub inner_of : Sizes → String → List Float → List Float → List Float
inner_of z name w x = linear_of z.tokens z.hidden z.inter (part (parts_of z) name w) x

unfoldable pub outer_of : Sizes → String → List Float → List Float → List Float
outer_of z name w a = linear_of z.tokens z.inter z.hidden (part (parts_of z) name w) a

unfoldable pub rotated : Sizes → List Float → List Float → List Float → List Float
rotated z cos sin x = rotate_of z.tokens z.heads (z.head_dim / 2) z.grid_w z.side cos sin x

unfoldable pub mixed : Sizes → List Float → List Float → List Float → List Float
mixed z q k v = attention_of z.tokens z.heads z.head_dim z.scaling q k v

unfoldable pub scored : Sizes → List Float → List Float → List Float
scored z q k = scores_of z.tokens z.heads z.head_dim z.scaling q k

-- the first half: h + o (attention (norm h))
unfoldable pub attn_run : Sizes → List Float → List Float → List Float → List Float → Run
attn_run z w cos sin h =
    let x = normed z "attention_norm" w h in
    let q = square_of z "q" w x in
    let k = square_of z "k" w x in
    let v = square_of z "v" w x in
    let q' = rotated z cos sin q in
    let k' = rotated z cos sin k in
    let a = mixed z q' k' v in
    let o = square_of z "o" w a in
    let h' = added (n_of z) h o in
    examined (x ∷ q ∷ k ∷ v ∷ q' ∷ k' ∷ scored z q' k' ∷ a ∷ o ∷ h' ∷ []) h'

-- the second half: bf16 (h + down (silu gate * up))
unfoldable pub feed_run : Sizes → List Float → List Float → Run
feed_run z w h =
    let x = normed z "ffn_norm" w h in
    let g = inner_of z "gate" w x in
    let u = inner_of z "up" w x in
    let a = gated (m_of z) g u in
    let d = outer_of z "down" w a in
    let h' = added (n_of z) h d in
    let b = rounded (n_of z) h' in
    examined (x ∷ g ∷ u ∷ a ∷ d ∷ h' ∷ b ∷ []) b

-- the block
unfoldable pub block_run : Sizes → List Float → List Float → List Float → List Float → Run
block_run z w cos sin h = then_run (attn_run z w cos sin h) (feed_run z w)

-- ---- the blocks one after another: the first l layers, whose weights are w

unfoldable pub layers_run : Sizes → List Float → List Float → List Float → ℕ → List Float → Run
layers_run z w cos sin zero h = went h
layers_run z w cos sin (suc l) h = then_run (layers_run z w cos sin l h) (block_run z (nth_layer z.hidden z.inter l w) cos sin)
