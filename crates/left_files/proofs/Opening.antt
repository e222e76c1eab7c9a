-- The next left file is begun, or there is none.
use Rattle.std.proofs.Common.{◌≡◌, List, [], ◌∷◌, ◌++◌, Option, None, ap, sym, ◌∙◌, subst, arith}
use Rattle.std.specs.Prelude.{reverse}
use Rattle.std.specs.declared.alloc.Global.{Global}
use Rattle.std.specs.declared.vec.Vec.{Vec}
use Rattle.std.proofs.lemmas.List.{append-nil, reverse-append}
use Rattle.mlr_world.specs.Inputs.{Contents}
use Rattle.mlr_world.specs.Taken.{Take, OpenEntry}
use Rattle.read_files.specs.Takes.{After}
use Rattle.read_files.proofs.Reading.{goes_on-same}
use Rattle.left_files.specs.declared.left_file.LeftFile.{LeftFile}
use Rattle.left_files.specs.declared.open_left.OpenLeft.{OpenLeft}
use Rattle.left_files.specs.declared.reader.LeftReader.{LeftReader}
use Rattle.left_files.specs.declared.reader.LeftTurn.TheVariants.{Went, NoMemory}
use Rattle.left_files.specs.Lefts.{names_of}
use Rattle.left_files.specs.Represents.{NoneRepresents, OpenRepresents, ReadsFile, Represents, Turned, open_bytes, with_open}
use Rattle.left_files.proofs.Open.{open-read}

-- where none is open
module _ (all : List LeftFile) (before : Option (List Take)) (given : List Take) (reader : LeftReader) (s : Represents all given reader) (contents : Option Contents) (taken : Option (List Take)) (entry : Option OpenEntry) (following : After before given contents taken entry) where
  -- there was no memory
  pub none-begun : reader.current ≡ None → (reader' : LeftReader) → Turned NoMemory all before given reader' contents taken entry
  none-begun closed reader' = record {
    given' = given;
    order = s.order;
    goes_on = goes_on-same given;
    following = following;
    one_read = omega arith;
    few =
        let none = subst (λ o. OpenRepresents o s.prefix (reverse reader.files.items) s.done all given) closed s.current in
        omega (arith, ap open_bytes none.given_is, open-read (names_of s.prefix) s.done s.read);
    says = tt;
    more = λ went. absurd (let e : NoMemory ≡ Went = went in cc);
    represents = λ went. absurd (let e : NoMemory ≡ Went = went in cc);
  }

  module _ (closed : reader.current ≡ None) where
    none : NoneRepresents s.prefix (reverse reader.files.items) s.done all given
    none = subst (λ o. OpenRepresents o s.prefix (reverse reader.files.items) s.done all given) closed s.current

    -- this is the next
    module _ (file : LeftFile) (remaining : Vec LeftFile Global) (popped : reader.files.items ≡ remaining.items ++ file ∷ []) where
      files-next : all ≡ s.prefix ++ file ∷ reverse remaining.items
      files-next = none.files_are ∙ ap (λ fs. s.prefix ++ reverse fs) popped ∙ ap (λ fs. s.prefix ++ fs) (reverse-append remaining.items (file ∷ []))

      pub next-begun : (input : OpenLeft) → ReadsFile file [] input → Represents all given (with_open input (record reader { files = remaining }))
      next-begun input begins = record {
        order = s.order;
        begun = s.begun;
        usable = s.usable;
        prefix = s.prefix;
        done = s.done;
        read = s.read;
        kept = s.kept;
        current = record { file = file; takes = []; files_are = files-next; given_is = none.given_is ∙ sym (append-nil s.done); reads = begins };
      }
