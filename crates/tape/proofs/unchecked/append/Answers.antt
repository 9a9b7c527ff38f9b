-- `unchecked::append`: each class of events is written by its own function.
use Rattle.event.specs.Meaning.{meaning_of}
use Rattle.tape.specs.Code.{bytes_for}
use Rattle.tape.specs.KindsLaws.{start_array, start_dictionary}
use Rattle.tape.proofs.unchecked.append.Goals as goal

pub returns-in-StartArray : goal.returns-in-StartArray
unfolding meaning_of
returns-in-StartArray c =
    rw (c.in-StartArray.is, ← start_array c.in-StartArray.length) c.put_start.ensures

pub returns-in-StartDictionary : goal.returns-in-StartDictionary
unfolding meaning_of
returns-in-StartDictionary c =
    rw (c.in-StartDictionary.is, ← start_dictionary c.in-StartDictionary.length) c.put_start-in-StartDictionary.ensures

pub returns-in-EndCollection : goal.returns-in-EndCollection
unfolding meaning_of bytes_for
returns-in-EndCollection c = rw c.in-EndCollection.is c.put_kind.ensures

pub returns-in-Boolean : goal.returns-in-Boolean
unfolding meaning_of
returns-in-Boolean c = rw c.in-Boolean.is c.put_boolean.ensures

pub returns-in-Data : goal.returns-in-Data
unfolding meaning_of bytes_for
returns-in-Data c = rw c.in-Data.is c.put_bytes.ensures

pub returns-in-Date : goal.returns-in-Date
unfolding meaning_of bytes_for
returns-in-Date c = rw c.in-Date.is c.put_eight.ensures

pub returns-in-Integer : goal.returns-in-Integer
unfolding meaning_of
returns-in-Integer c = rw c.in-Integer.is c.put_integer.ensures

pub returns-in-Real : goal.returns-in-Real
unfolding meaning_of bytes_for
returns-in-Real c = rw (c.in-Real.is, ← c.float_bits.ensures) c.put_eight-in-Real.ensures

pub returns-in-Nan : goal.returns-in-Nan
unfolding meaning_of bytes_for
returns-in-Nan c = rw c.in-Nan.is c.put_eight-in-Nan.ensures

pub returns-in-String : goal.returns-in-String
unfolding meaning_of bytes_for
returns-in-String c = rw c.in-String.is c.put_bytes-in-String.ensures

pub returns-in-Uid : goal.returns-in-Uid
unfolding meaning_of bytes_for
returns-in-Uid c = rw c.in-Uid.is c.put_number.ensures
