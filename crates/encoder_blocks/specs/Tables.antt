-- The full tables that the rotation goes by: those that are lent, or those for which the lent tables of rows and of columns stand.
-- Assumes nothing.
use Rattle.std.specs.Prelude.{List, ◌/◌, Float}
use Rattle.encoder_settings.specs.declared.Tables.{Tables}
use Rattle.encoder_settings.specs.declared.Tables.TheVariants.{Full, Axes}
use Rattle.encoder_rotation.specs.Axes.{expand}
use Rattle.encoder_blocks.specs.declared.Sizes.{Sizes}

abbrev pub cos_by : Sizes → Tables → List Float
cos_by z (Full cos sin) = cos.now
cos_by z (Axes row_cos row_sin column_cos column_sin) = expand z.side (z.head_dim / 4) row_cos.now column_cos.now

abbrev pub sin_by : Sizes → Tables → List Float
sin_by z (Full cos sin) = sin.now
sin_by z (Axes row_cos row_sin column_cos column_sin) = expand z.side (z.head_dim / 4) row_sin.now column_sin.now
