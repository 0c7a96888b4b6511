mod AddedLaws
