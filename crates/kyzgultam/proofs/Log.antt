-- The statements of specs/Log.antt: a call's answer reads lengths and numbers, and no pixel. Assumes nothing.
use mathlib.Core.Path.{◌≡◌, sym, ap, ◌∙◌}
use Prim.Native.Nat.{ℕ}
use Rattle.picture_limits.specs.Refusal.{number_of}
use Rattle.picture.specs.Preprocess as Pre
use Rattle.picture_tiles.specs.Answer.{tiled}
use Rattle.face_picture.specs.declared.PreprocessReport.{PreprocessReport}
use Rattle.face_tiles.specs.declared.CutReport.{CutReport}
use Rattle.face_tiles.specs.declared.TileReport.{TileReport}
use Rattle.face_picture.specs.Reports.{preprocess_report}
use Rattle.face_settings.specs.Settings.{inner}
use Rattle.face_tiles.specs.Reports.{tile_report}
use Rattle.kyzgultam.specs.Log.{PreprocessUnseen, AnswerUnseen, TileUnseen, TileAnswerUnseen, CutUnseen}

-- what depends on two lengths alone is the same where these are
same : {A : Type 0} (f : ℕ → ℕ → A) (n n' m m' : ℕ) (a a' : A) → n ≡ n' → m ≡ m' → a ≡ f n m → a' ≡ f n' m' → a ≡ a'
same f n n' m m' a a' d e p q = p ∙ ap (λ (k : ℕ). f k m) d ∙ ap (f n') e ∙ sym q

pub preprocess-unseen : PreprocessUnseen
preprocess-unseen s rgb rgb' height width out out' r r' l p q =
    let e : r ≡ r' = same (λ n m. preprocess_report (Pre.preprocessed (inner s) n height width m)) _ _ _ _ r r' l.bytes l.room p q in
    record {
      number = ap (λ (x : PreprocessReport). x.number) e;
      grid-h = ap (λ (x : PreprocessReport). x.grid_h) e;
      grid-w = ap (λ (x : PreprocessReport). x.grid_w) e;
      floats = ap (λ (x : PreprocessReport). x.floats) e;
    }

pub answer-unseen : AnswerUnseen
answer-unseen s rgb rgb' height width out out' a a' l p q =
    let e : a ≡ a' = same (λ n m. Pre.preprocessed s n height width m) _ _ _ _ a a' l.bytes l.room p q in
    record { number = ap number_of e; grid-h = ap Pre.grid_h e; grid-w = ap Pre.grid_w e; floats = ap Pre.floats e }

pub tile-unseen : TileUnseen
tile-unseen s rgb rgb' height width index out out' r r' l p q =
    let e : r ≡ r' = same (λ n m. tile_report (tiled (inner s) n height width index m)) _ _ _ _ r r' l.bytes l.room p q in
    record {
      number = ap (λ (x : TileReport). x.number) e;
      grid-h = ap (λ (x : TileReport). x.grid_h) e;
      grid-w = ap (λ (x : TileReport). x.grid_w) e;
      floats = ap (λ (x : TileReport). x.floats) e;
      top = ap (λ (x : TileReport). x.top) e;
      left = ap (λ (x : TileReport). x.left) e;
      height = ap (λ (x : TileReport). x.height) e;
      width = ap (λ (x : TileReport). x.width) e;
    }

pub tile-answer-unseen : TileAnswerUnseen
tile-answer-unseen s rgb rgb' height width index out out' a a' l p q = same (λ n m. tiled s n height width index m) _ _ _ _ a a' l.bytes l.room p q

pub cut-unseen : CutUnseen
cut-unseen s height width r r' p q =
    let e : r ≡ r' = p ∙ sym q in
    record {
      number = ap (λ (x : CutReport). x.number) e;
      side = ap (λ (x : CutReport). x.side) e;
      rows = ap (λ (x : CutReport). x.rows) e;
      columns = ap (λ (x : CutReport). x.columns) e;
    }
