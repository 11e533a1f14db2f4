-- A row of an instance that is accepted is written as its production says, and its size is the length of its bytes and no larger than can be; it has a byte.
use Rattle.std.specs.Prelude.{Ok}
use Rattle.std.specs.Prelude.{◌≡◌, ℕ, ◌<◌, false, List, length}
use mathlib.Core.Path.{refl}
use Rattle.fields.specs.Answer.{Refused}
use Rattle.fields.specs.declared.Refusal.TheVariants.{Room}
use Rattle.fields.specs.Words.{wide}
use Rattle.fields.specs.Shape.{widths}
use Rattle.fields.specs.Answers.{left}
use Rattle.writing.specs.Agree.{Row}
use Rattle.writing.specs.Sizes.{within}
use Rattle.writing.proofs.TableRows.{every, row_of}
use Rattle.instances.specs.Table.{core_table, table}
use Rattle.instances.specs.Write.{measured_core_instance, write_core_instance, measured_instance, write_instance}
use Rattle.writing.proofs.KindLaws as kinds
use Rattle.instances.proofs.Productions.{core_instances-agree, instances-agree}

pub core_instance-row : (row pool : List ℕ) (size : ℕ) → measured_core_instance row pool ≡ Ok size → Row core_table row pool size
unfolding measured_core_instance every widths wide
core_instance-row row pool size e = row_of core_table core_instances-agree refl row pool size e

pub instance_row : (row pool : List ℕ) (size : ℕ) → measured_instance row pool ≡ Ok size → Row table row pool size
unfolding measured_instance every widths wide
instance_row row pool size e = row_of table instances-agree refl row pool size e

module _ (row pool : List ℕ) {n : ℕ} (e : measured_core_instance row pool ≡ Ok n) where
  pub core_instance_some : 0 < n
  unfolding measured_core_instance
  core_instance_some = kinds.some_bytes {ls = core_table} (tt, (tt, tt)) e (core_instance-row row pool n e)

  pub core_no_room : (out : List ℕ) (at : ℕ) → within n at (length out) ≡ false → left (Refused Room n) out ≡ write_core_instance row pool out at
  unfolding measured_core_instance write_core_instance
  core_no_room out at w = kinds.no_room {ls = core_table} (tt, (tt, tt)) e (core_instance-row row pool n e) out at w

module _ (row pool : List ℕ) {n : ℕ} (e : measured_instance row pool ≡ Ok n) where
  pub instance_some : 0 < n
  unfolding measured_instance
  instance_some = kinds.some_bytes {ls = table} (tt, (tt, tt)) e (instance_row row pool n e)

  pub no_room : (out : List ℕ) (at : ℕ) → within n at (length out) ≡ false → left (Refused Room n) out ≡ write_instance row pool out at
  unfolding measured_instance write_instance
  no_room out at w = kinds.no_room {ls = table} (tt, (tt, tt)) e (instance_row row pool n e) out at w
