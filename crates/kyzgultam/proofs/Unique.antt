-- Any two results that satisfy the contract of a public function are equal. Assumes nothing.
use mathlib.Core.Path.{◌≡◌, sym, ap, ◌∙◌}
use mathlib.Core.List.{List}
use Prim.Native.Nat.{ℕ}
use lib.ListN.{length}
use lib.Ieee.{Float}
use Rattle.picture.specs.Preprocess.{preprocessed, patches_out}
use Rattle.picture_restore.specs.Restore.{restored, bytes_out}
use Rattle.picture_tiles.specs.Answer as Tile
use Rattle.picture_salvage.specs.Salvage.{salvaged, saved_out, list_out}
use Rattle.pool_books.specs.declared.Pool.{Pool}
use Rattle.pool.specs.Pool as Pl
use Rattle.kyzgultam.specs.declared.pools.PoolReport.{PoolReport}
use Rattle.kyzgultam.specs.declared.pools.PoolPlace.{PoolPlace}
use Rattle.face_encoder.specs.Reports.{forward_report, lengths_report}
use Rattle.face_picture.specs.Reports.{preprocess_report, restore_report, salvage_report, place_of}
use Rattle.face_settings.specs.Settings.{inner, inner_encoder}
use Rattle.face_tiles.specs.Reports.{cut_report, tile_report}
use Rattle.kyzgultam.specs.Face.{pool_report, pool_place, config_report, ConfigReports, weights_report, WeightsReports}
use Rattle.encoder_settings.specs.Lengths.{needed_of}
use Rattle.encoder.specs.Forward.{encoded_of, out_of, scratch_of}
use Rattle.encoder.specs.Axes.{encoded_axes, out_axes, scratch_axes}
use Rattle.encoder.specs.Plain.{encoded_plain, out_plain, scratch_plain}
use Rattle.config.proofs.Unique.{config-unique}
use Rattle.weights.proofs.Unique.{weights-unique}
use Rattle.kyzgultam.specs.declared.config_file.ConfigReport.{ConfigReport}
use Rattle.kyzgultam.specs.declared.weights_file.WeightsReport.{WeightsReport}
use Rattle.face_settings.specs.declared.EncoderSettings.{EncoderSettings}
use Rattle.face_encoder.specs.declared.ForwardReport.{ForwardReport}
use Rattle.face_encoder.specs.declared.LengthsReport.{LengthsReport}
use Rattle.face_picture.specs.declared.PatchPlace.{PatchPlace}
use Rattle.face_settings.specs.declared.PictureSettings.{PictureSettings}
use Rattle.face_picture.specs.declared.PreprocessReport.{PreprocessReport}
use Rattle.face_picture.specs.declared.RestoreReport.{RestoreReport}
use Rattle.face_picture.specs.declared.salvage.SalvageReport.{SalvageReport}
use Rattle.face_tiles.specs.declared.CutReport.{CutReport}
use Rattle.face_tiles.specs.declared.TileReport.{TileReport}
use Rattle.number_floats.proofs.Unique.{one}

abbrev pub Preprocesses : PictureSettings → List ℕ → ℕ → ℕ → List Float → PreprocessReport → List Float → Type 0
Preprocesses s rgb height width out r out' =
    (r ≡ preprocess_report (preprocessed (inner s) (length rgb) height width (length out)))
    × (out' ≡ patches_out (inner s) rgb height width out)

pub kz-preprocess-unique : (s : PictureSettings) (rgb : List ℕ) (height width : ℕ) (out : List Float) (r r' : PreprocessReport) (out' out'' : List Float)
    → Preprocesses s rgb height width out r out' → Preprocesses s rgb height width out r' out'' → (r ≡ r') × (out' ≡ out'')
kz-preprocess-unique s rgb height width out r r' out' out'' a b = (one _ a.0 b.0, one _ a.1 b.1)

abbrev pub Restores : PictureSettings → List Float → ℕ → ℕ → List ℕ → RestoreReport → List ℕ → Type 0
Restores s patches gh gw out r out' =
    (r ≡ restore_report (restored (inner s) patches gh gw (length out)))
    × (out' ≡ bytes_out (inner s) patches gh gw out)

pub kz-restore-unique : (s : PictureSettings) (patches : List Float) (gh gw : ℕ) (out : List ℕ) (r r' : RestoreReport) (out' out'' : List ℕ)
    → Restores s patches gh gw out r out' → Restores s patches gh gw out r' out'' → (r ≡ r') × (out' ≡ out'')
kz-restore-unique s patches gh gw out r r' out' out'' a b = (one _ a.0 b.0, one _ a.1 b.1)

abbrev pub Salvages : PictureSettings → List ℕ → ℕ → ℕ → List ℕ → List ℕ → SalvageReport → List ℕ → List ℕ → Type 0
Salvages s patches gh gw out list r out' list' =
    (r ≡ salvage_report (salvaged (inner s) patches gh gw (length out) (length list)))
    × (out' ≡ saved_out (inner s) patches gh gw (length list) out)
    × (list' ≡ list_out (inner s) patches gh gw (length out) list)

pub kz-salvage-unique : (s : PictureSettings) (patches : List ℕ) (gh gw : ℕ) (out list : List ℕ) (r r' : SalvageReport) (out' out'' list' list'' : List ℕ)
    → Salvages s patches gh gw out list r out' list' → Salvages s patches gh gw out list r' out'' list'' → (r ≡ r') × (out' ≡ out'') × (list' ≡ list'')
kz-salvage-unique s patches gh gw out list r r' out' out'' list' list'' a b = (one _ a.0 b.0, one _ a.1 b.1, one _ a.2 b.2)

pub kz-config-unique : (lent : EncoderSettings) (s : List ℕ) (r r' : ConfigReport) → ConfigReports (inner_encoder lent) s r → ConfigReports (inner_encoder lent) s r' → r ≡ r'
kz-config-unique lent s r r' a b = a.2 ∙ ap config_report (config-unique (inner_encoder lent) s a.0 b.0 a.1 b.1) ∙ sym b.2

pub kz-weights-unique : (s : EncoderSettings) (file out after also : List ℕ) (r r' : WeightsReport) → WeightsReports (inner_encoder s) file out after r → WeightsReports (inner_encoder s) file out also r' → (r ≡ r') × (after ≡ also)
kz-weights-unique s file out after also r r' a b = let e = weights-unique (inner_encoder s) file out after also a.0 b.0 a.1 b.1 in (a.2 ∙ ap weights_report e.0 ∙ sym b.2, e.1)

pub kz-cut-unique : (s : PictureSettings) (height width : ℕ) (r r' : CutReport) → r ≡ cut_report (Tile.cut_of (inner s) height width) → r' ≡ cut_report (Tile.cut_of (inner s) height width) → r ≡ r'
kz-cut-unique s height width r r' = one _

abbrev pub PreprocessesTile : PictureSettings → List ℕ → ℕ → ℕ → ℕ → List Float → TileReport → List Float → Type 0
PreprocessesTile s rgb height width index out r out' =
    (r ≡ tile_report (Tile.tiled (inner s) (length rgb) height width index (length out)))
    × (out' ≡ Tile.patches_out (inner s) rgb height width index out)

pub kz-preprocess-tile-unique : (s : PictureSettings) (rgb : List ℕ) (height width index : ℕ) (out : List Float) (r r' : TileReport) (out' out'' : List Float)
    → PreprocessesTile s rgb height width index out r out' → PreprocessesTile s rgb height width index out r' out'' → (r ≡ r') × (out' ≡ out'')
kz-preprocess-tile-unique s rgb height width index out r r' out' out'' a b = (one _ a.0 b.0, one _ a.1 b.1)

abbrev pub RestoresTile : PictureSettings → List Float → ℕ → ℕ → ℕ → List ℕ → TileReport → List ℕ → Type 0
RestoresTile s patches height width index out r out' =
    (r ≡ tile_report (Tile.untiled (inner s) patches height width index (length out)))
    × (out' ≡ Tile.bytes_out (inner s) patches height width index out)

pub kz-restore-tile-unique : (s : PictureSettings) (patches : List Float) (height width index : ℕ) (out : List ℕ) (r r' : TileReport) (out' out'' : List ℕ)
    → RestoresTile s patches height width index out r out' → RestoresTile s patches height width index out r' out'' → (r ≡ r') × (out' ≡ out'')
kz-restore-tile-unique s patches height width index out r r' out' out'' a b = (one _ a.0 b.0, one _ a.1 b.1)

pub kz-pool-new-unique : (n : ℕ) (r r' : Pool) → r ≡ Pl.new_pool n → r' ≡ Pl.new_pool n → r ≡ r'
kz-pool-new-unique n r r' = one _

abbrev pub PoolAdds : Pool → List Float → ℕ → List Float → PoolReport → List Float → Type 0
PoolAdds p s k vs r s' = (r ≡ pool_report (Pl.add_answer p s k vs)) × (s' ≡ Pl.add_slice p s k vs)

pub kz-pool-add-unique : (p : Pool) (s : List Float) (k : ℕ) (vs : List Float) (r r' : PoolReport) (s' s'' : List Float) → PoolAdds p s k vs r s' → PoolAdds p s k vs r' s'' → (r ≡ r') × (s' ≡ s'')
kz-pool-add-unique p s k vs r r' s' s'' a b = (one _ a.0 b.0, one _ a.1 b.1)

pub kz-pool-find-unique : (p : Pool) (s : List Float) (k : ℕ) (r r' : PoolPlace) → r ≡ pool_place (Pl.find_answer p (length s) k) → r' ≡ pool_place (Pl.find_answer p (length s) k) → r ≡ r'
kz-pool-find-unique p s k r r' = one _

pub kz-pool-drop-unique : (p : Pool) (s : List Float) (k : ℕ) (r r' : PoolReport) → r ≡ pool_report (Pl.drop_answer p (length s) k) → r' ≡ pool_report (Pl.drop_answer p (length s) k) → r ≡ r'
kz-pool-drop-unique p s k r r' = one _

pub kz-patch-unique : (patches : List Float) (p i : ℕ) (r r' : PatchPlace) → r ≡ place_of (length patches) p i → r' ≡ place_of (length patches) p i → r ≡ r'
kz-patch-unique patches p i r r' = one _

abbrev pub Forwards : EncoderSettings → List Float → ℕ → ℕ → List Float → List Float → List Float → List Float → List Float → ForwardReport → List Float → List Float → Type 0
Forwards s patches gh gw weights cos sin scratch out r out' scratch' =
    (r ≡ forward_report (encoded_of (inner_encoder s) gh gw weights cos sin patches (length out) (length scratch)))
    × (out' ≡ out_of (inner_encoder s) gh gw weights cos sin patches (length scratch) out)
    × (scratch' ≡ scratch_of (inner_encoder s) gh gw weights cos sin patches (length out) scratch)

pub kz-forward-unique : (s : EncoderSettings) (patches : List Float) (gh gw : ℕ) (weights cos sin scratch out : List Float) (r r' : ForwardReport) (out' out'' : List Float) (scratch' scratch'' : List Float)
    → Forwards s patches gh gw weights cos sin scratch out r out' scratch' → Forwards s patches gh gw weights cos sin scratch out r' out'' scratch'' → (r ≡ r') × (out' ≡ out'') × (scratch' ≡ scratch'')
kz-forward-unique s patches gh gw weights cos sin scratch out r r' out' out'' scratch' scratch'' a b = (one _ a.0 b.0, one _ a.1 b.1, one _ a.2 b.2)

abbrev pub ForwardsAxes : EncoderSettings → List Float → ℕ → ℕ → List Float → List Float → List Float → List Float → List Float → List Float → List Float → ForwardReport → List Float → List Float → Type 0
ForwardsAxes s patches gh gw weights row_cos row_sin column_cos column_sin scratch out r out' scratch' =
    (r ≡ forward_report (encoded_axes (inner_encoder s) gh gw weights row_cos row_sin column_cos column_sin patches (length out) (length scratch)))
    × (out' ≡ out_axes (inner_encoder s) gh gw weights row_cos row_sin column_cos column_sin patches (length scratch) out)
    × (scratch' ≡ scratch_axes (inner_encoder s) gh gw weights row_cos row_sin column_cos column_sin patches (length out) scratch)

pub kz-forward-axes-unique : (s : EncoderSettings) (patches : List Float) (gh gw : ℕ) (weights row_cos row_sin column_cos column_sin scratch out : List Float) (r r' : ForwardReport) (out' out'' : List Float) (scratch' scratch'' : List Float)
    → ForwardsAxes s patches gh gw weights row_cos row_sin column_cos column_sin scratch out r out' scratch'
    → ForwardsAxes s patches gh gw weights row_cos row_sin column_cos column_sin scratch out r' out'' scratch'' → (r ≡ r') × (out' ≡ out'') × (scratch' ≡ scratch'')
kz-forward-axes-unique s patches gh gw weights row_cos row_sin column_cos column_sin scratch out r r' out' out'' scratch' scratch'' a b = (one _ a.0 b.0, one _ a.1 b.1, one _ a.2 b.2)

abbrev pub ForwardsPlain : EncoderSettings → List Float → ℕ → ℕ → List Float → List Float → List Float → List Float → List Float → ForwardReport → List Float → List Float → Type 0
ForwardsPlain s patches gh gw weights cos sin scratch out r out' scratch' =
    (r ≡ forward_report (encoded_plain (inner_encoder s) gh gw weights cos sin patches (length out) (length scratch)))
    × (out' ≡ out_plain (inner_encoder s) gh gw weights cos sin patches (length scratch) out)
    × (scratch' ≡ scratch_plain (inner_encoder s) gh gw weights cos sin patches (length out) scratch)

pub kz-forward-plain-unique : (s : EncoderSettings) (patches : List Float) (gh gw : ℕ) (weights cos sin scratch out : List Float) (r r' : ForwardReport) (out' out'' : List Float) (scratch' scratch'' : List Float)
    → ForwardsPlain s patches gh gw weights cos sin scratch out r out' scratch' → ForwardsPlain s patches gh gw weights cos sin scratch out r' out'' scratch'' → (r ≡ r') × (out' ≡ out'') × (scratch' ≡ scratch'')
kz-forward-plain-unique s patches gh gw weights cos sin scratch out r r' out' out'' scratch' scratch'' a b = (one _ a.0 b.0, one _ a.1 b.1, one _ a.2 b.2)

pub kz-lengths-unique : (s : EncoderSettings) (gh gw : ℕ) (r r' : LengthsReport) → r ≡ lengths_report (needed_of (inner_encoder s) gh gw) → r' ≡ lengths_report (needed_of (inner_encoder s) gh gw) → r ≡ r'
kz-lengths-unique s gh gw r r' = one _
