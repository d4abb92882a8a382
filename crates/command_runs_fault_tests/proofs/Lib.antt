mod OtherTag
