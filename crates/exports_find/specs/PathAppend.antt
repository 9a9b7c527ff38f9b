-- A path with one key more, as one number.
use Rattle.std.specs.Prelude.{Ok, Err, ℕ}
use Rattle.lookup.specs.Append.{Added}
use Rattle.lookup.specs.declared.append.AddError.TheVariants.{NoRoom, NotPath}

-- how many bytes are held; 2^64 - 1 for what is no path, 2^64 - 2 for too little room: no slice is as long as that
unfoldable pub added_number : Added → ℕ
added_number (Ok n) = n
added_number (Err NoRoom) = 0xFFFFFFFFFFFFFFFE
added_number (Err NotPath) = 0xFFFFFFFFFFFFFFFF
