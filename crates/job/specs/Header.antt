-- A version by its number, and the header of a file as it is read.
use Rattle.std.specs.Prelude.{ℕ, ◌≡◌, List}
use Rattle.job.specs.declared.Version.{Version}
use Rattle.job.specs.declared.Version.TheVariants.{Plain, Counted}
use Rattle.job.specs.declared.Header.{Header}
use Rattle.job.specs.Job.{version_in, rack_in, count_in}

-- the number of a version
abbrev pub version_number : Version → ℕ
version_number Plain = 1
version_number Counted = 2

-- the header has the version, the rack and the count of the file
pub record IsHeaderOf (file : List ℕ) (header : Header) : Type 0 where
  pub version-is : version_number header.version ≡ version_in file
  pub rack-is : header.rack ≡ rack_in file
  pub count-is : header.count ≡ count_in file
